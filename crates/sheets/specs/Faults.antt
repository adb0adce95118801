-- Faults of sheets: every one is refused at place 0.
use Rattle.std.specs.Prelude.{ℕ, List}
use Rattle.jcode.specs.declared.refusal.Refusal.{Refusal}
use Rattle.jcode.specs.Lines.{refused as refused_at}
use Rattle.sheets.specs.declared.fault.SheetFault.{SheetFault}

abbrev pub refused : Refusal → SheetFault
refused r = record { refusal = r; place = 0 }

-- the refusal's number and its place
abbrev pub shown : SheetFault → List ℕ
shown f = refused_at (record { refusal = f.refusal; place = f.place })
