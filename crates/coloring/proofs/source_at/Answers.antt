-- `coloring::source_at` meets its contract: the source that is there, in colours.
use Prim.Native.Nat.{◌<◌, ◌≤◌}
use mathlib.Core.List.{map}
use mathlib.Core.Path.{◌≡◌, sym, ap, ◌∙◌}
use borrow.Author.Rules.{rules}
use lib.ListN.{length, get_or, length-map, get_or-eq_default}
use Rattle.std.proofs.lemmas.List.{get_or-map}
use Rattle.passes.specs.Color.{source_word}
use Rattle.coloring.proofs.source_at.Goals as goal

pub returns-in-Some : goal.returns-in-Some
returns-in-Some c =
    let f = source_word c.args.renaming.now.regs c.args.colours.now in
    let ws = c.sources_of.result.now in
    let within : c.args.j < length ws = search rules in
    let word : c.in-Some.field-0.now ≡ get_or ws c.args.j 0 = search rules in
    rw (← c.sources_of.ensures) (c.deallocate.ensures ∙ (ap f word ∙ sym (get_or-map f ws c.args.j 0 0 within)))

pub returns-in-None : goal.returns-in-None
returns-in-None c =
    let f = source_word c.args.renaming.now.regs c.args.colours.now in
    let ws = c.sources_of.result.now in
    let past : length ws ≤ c.args.j = search rules in
    rw (← c.sources_of.ensures) (sym (get_or-eq_default (map f ws) 0 (rw (length-map ws f) past)))
