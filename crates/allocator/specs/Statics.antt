-- Public, document 01, sections 4 and 7: an entry of the lent statics has a static's colour and its end.
use Rattle.std.specs.Prelude.{ℕ, List, [], ◌∷◌}
use Rattle.mir.specs.declared.config.Settings.{Settings}
use Rattle.passes.specs.Contract.{colours_of}
use Rattle.passes.specs.Create.{ends_of}
use Rattle.allocator.specs.declared.statics.Static.{Static}

abbrev pub entry : (colour end : ℕ) → Static
entry colour end = record { colour = colour; end = end }

-- colours and ends as entries, in order
unfoldable pub entries : List ℕ → List ℕ → List Static
entries [] es = []
entries (c ∷ cs) [] = []
entries (c ∷ cs) (e ∷ es) = entry c e ∷ entries cs es

-- a list's statics; one that passes has as many ends as colours (law `ends_same`)
unfoldable pub statics_of : Settings → List ℕ → List ℕ → List Static
statics_of s list table = entries (colours_of s list table) (ends_of list)
