-- The line that is shown of a refusal.
use Rattle.std.specs.Prelude.{ℕ, List, ◌++◌, codes, decimal}
use Rattle.jcode.specs.declared.refusal.ReadFault.{ReadFault}
use Rattle.jcode.specs.Refusals.{number_of}

-- the refusal's number and its place
abbrev pub refused : ReadFault → List ℕ
refused f = codes "refused " ++ (decimal (number_of f.refusal) ++ (codes " " ++ decimal f.place))
