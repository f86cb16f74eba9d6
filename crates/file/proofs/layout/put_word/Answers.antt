-- `file::layout::put_word` meets its contract: the part that is written over holds the word's four bytes.
-- A run of stores is what was there, with the bytes in their place.
use Prim.Native.Nat.{◌+◌, ◌-◌}
use mathlib.Core.Path.{refl, sym, ◌∙◌}
use lib.ListN.{take, drop}
use native.Mathlib.Omega.{arith}
use Rattle.std.proofs.lemmas.List.Edits.{sets-eq, paste_all}
use Rattle.std.proofs.Common.{append_assoc}
use Rattle.std.proofs.lemmas.Slice.{put_mid-paste}
use Rattle.file.specs.File.{bytes_of_word}
use Rattle.file.proofs.layout.put_word.Goals as goal

pub returns : goal.returns
returns c =
    let p = c.args.p in
    let out = c.args.out.now in
    let bytes = bytes_of_word c.args.w in
    put_mid-paste p (p + 4 - p) out _ bytes 4 (c.copy_from_slice.ensures.after ∙ c.to_le_bytes.ensures) (omega arith) refl
    ∙ (paste_all out p bytes 4 refl ∙ (sym (append_assoc (take p out) bytes (drop (p + 4) out)) ∙ sym (sets-eq bytes out p (omega arith))))
