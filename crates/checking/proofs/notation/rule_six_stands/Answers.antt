use Rattle.checking.proofs.Spelling.{readable_spelled}
use Rattle.checking.proofs.Keeping.{spelled_is_readable}
use Rattle.checking.proofs.Checking.{leaves_readable, leaves_sound}
use Rattle.checking.proofs.notation.rule_six_stands.Goals as goal

pub returns-clause-notation : goal.returns-clause-notation
returns-clause-notation c = record { spelled = readable_spelled; readable = spelled_is_readable }

pub returns-clause-left : goal.returns-clause-left
returns-clause-left c = leaves_readable

pub returns-clause-sound : goal.returns-clause-sound
returns-clause-sound c = leaves_sound
