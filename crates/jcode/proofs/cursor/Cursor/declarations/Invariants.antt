use Rattle.std.proofs.Common.{◌≡◌, ◌-◌, ◌≤◌, min, [], length, take}
use Rattle.jcode.specs.Tables.{put}
use Rattle.jcode.specs.ReadUnits.{read_declarations}
use Rattle.jcode.proofs.cursor.Cursor.declarations.Given as goal

abbrev pub invariant-loop-self : goal.invariant-loop-self
invariant-loop-self l = record {
  same : l.self.bytes.now ≡ l.initial.self.bytes.now;
  lent : l.variables.records.ghost_name ≡ l.initial.variables.records.ghost_name;
  room : length l.variables.records.now ≡ length l.initial.variables.records.now;
  few : l.variables.count ≤ min (length l.initial.variables.records.now) 32;
  filled : l.variables.records.now ≡ put l.initial.variables.records.now 0 (take l.variables.count l.variables.records.now);
  whole :
      read_declarations (length l.initial.variables.records.now) (min (length l.initial.variables.records.now) 32 - l.variables.count) (take l.variables.count l.variables.records.now) l.initial.self.bytes.now l.self.at
      ≡ read_declarations (length l.initial.variables.records.now) (min (length l.initial.variables.records.now) 32) [] l.initial.self.bytes.now l.initial.self.at;
}

abbrev pub decreases-loop-self : goal.decreases-loop-self
decreases-loop-self l = min (length l.initial.variables.records.now) 32 - l.variables.count
