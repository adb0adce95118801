use Rattle.std.proofs.Common.{◌≡◌, ◌-◌, min, [], length, take, sym, refl, ap, ◌∙◌, arith, rules, length-set}
use Rattle.jcode.specs.Pieces.{got}
use Rattle.jcode.specs.Tables.{put}
use Rattle.jcode.specs.ReadUnits.{opens_declaration, read_declarations}
use Rattle.jcode.proofs.Chains.{tested, off, stopped_leaves}
use Rattle.jcode.proofs.Fillings.{filled_push}
use Rattle.jcode.proofs.Declarations.{entry_refused, entry_read, declared_all}
use Rattle.jcode.proofs.cursor.Cursor.declarations.Goals as goal

pub loop-self-init : goal.loop-self-init
loop-self-init c =
    let t = c.args.variables.now in
    let none : t.count ≡ 0 = c.requires in
    let room : min (length t.records.now) 32 - 0 ≡ min (length t.records.now) 32 = omega arith in
    record {
      same = refl;
      lent = refl;
      room = refl;
      few = omega arith;
      filled = ap (λ n. put t.records.now 0 (take n t.records.now)) (sym none);
      whole =
          ap (λ n. read_declarations (length t.records.now) (min (length t.records.now) 32 - n) (take n t.records.now) c.args.self.now.bytes.now c.args.self.now.at) none
          ∙ ap (λ n. read_declarations (length t.records.now) n [] c.args.self.now.bytes.now c.args.self.now.at) room;
    }

pub returns-in_err-variable : goal.returns-in_err-variable
returns-in_err-variable c =
    let more = tested opens_declaration c.loop-self.self c.loop-self.invariant.same c.loop-self-test.ensures in
    record {
      value = stopped_leaves c.from_residual.result _ _ c.from_residual.ensures.1 ∙ off (λ xs j. got (length xs, put c.args.variables.now.records.now 0 xs) j) (entry_refused c.args.variables.now.records.now c.loop-self.variables c.args.self.now.bytes.now _ c.loop-self.self c.loop-self.invariant.room c.loop-self.invariant.same c.loop-self.invariant.whole more _ c.in_err-variable.ensures.value);
      same = search rules;
      lent = search rules;
    }

pub push-requires : goal.push-requires
push-requires c = omega (arith, c.in_ok-variable.ensures.within)

pub loop-self-smaller : goal.loop-self-smaller
loop-self-smaller c = omega (arith, c.in_ok-variable.ensures.within, c.push.ensures.count, c.loop-self.invariant.room)

pub loop-self-preserved : goal.loop-self-preserved
loop-self-preserved c =
    let more = tested opens_declaration c.loop-self.self c.loop-self.invariant.same c.loop-self-test.ensures in
    let room = c.in_ok-variable.ensures.within in
    let lengths = c.loop-self.invariant.room in
    let kept = ap length c.push.ensures.records ∙ length-set c.loop-self.variables.records.now c.loop-self.variables.count c.in_ok-variable.variable in
    record {
      same = search rules;
      lent = search rules;
      room = kept ∙ lengths;
      few = omega (arith, c.push.ensures.count);
      filled = filled_push c.args.variables.now.records.now c.loop-self.variables c.push.new.self c.in_ok-variable.variable (omega arith) c.push.ensures.records c.push.ensures.count c.loop-self.invariant.filled;
      whole = entry_read c.args.variables.now.records.now c.loop-self.variables c.args.self.now.bytes.now _ c.loop-self.self lengths c.loop-self.invariant.same c.loop-self.invariant.whole more _ c.push.new.self c.in_ok-variable.variable c.push.ensures.records c.push.ensures.count (omega arith) c.in_ok-variable.ensures.value;
    }

pub returns : goal.returns
returns c =
    let none = tested opens_declaration c.loop-self.self c.loop-self.invariant.same c.loop-self-test.ensures in
    record {
      value = declared_all c.args.variables.now.records.now c.loop-self.variables c.args.self.now.bytes.now _ c.loop-self.self c.loop-self.invariant.room c.loop-self.invariant.same c.loop-self.invariant.whole none c.loop-self.invariant.filled;
      same = search rules;
      lent = search rules;
    }
