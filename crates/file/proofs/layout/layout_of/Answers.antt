-- `file::layout::layout_of` meets its contract: a file that is sent back early has a count over 512, or another length.
-- A file too short to read a count from is shorter than any that the counts allow.
use mathlib.Core.Path.{◌≡◌}
use native.Mathlib.Omega.{arith}
use Rattle.file.specs.File.{record_count}
use Rattle.file.proofs.Sections.{layout_bad, layout_good}
use Rattle.file.proofs.layout.layout_of.Goals as goal

pub returns : goal.returns
returns c =
    -- the second word read is the count of records
    let records : c.word_at-records.result ≡ record_count c.args.file.now = cc in
    rw (c.word_at-pairs.ensures, records) (layout_good _ (omega arith) (omega arith) (omega arith))

pub returns-then-len-lt28 : goal.returns-then-len-lt28
returns-then-len-lt28 c =
    layout_bad _ (λ s. omega arith)

pub returns-then-pairs-gt512 : goal.returns-then-pairs-gt512
returns-then-pairs-gt512 c =
    layout_bad _ (λ s. omega arith)

pub returns-then-len-at : goal.returns-then-len-at
returns-then-len-at c =
    layout_bad _ (λ s. omega arith)

pub returns-then-records-gt512 : goal.returns-then-records-gt512
returns-then-records-gt512 c =
    let records : c.word_at-records.result ≡ record_count c.args.file.now = cc in
    layout_bad _ (λ s. omega (arith, records))

pub returns-then-len-at-2 : goal.returns-then-len-at-2
returns-then-len-at-2 c =
    let records : c.word_at-records.result ≡ record_count c.args.file.now = cc in
    layout_bad _ (λ s. omega (arith, records))
