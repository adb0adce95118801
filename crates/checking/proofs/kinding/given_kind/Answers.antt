use Rattle.std.proofs.Common.{◌≡◌, Bool, true, false, cond, [], ◌∷◌, find, Some, None, refl, ap, ◌∙◌, rules, tests}
use Rattle.std.specs.Option.{option_map}
use Rattle.std.proofs.lemmas.Iterator.{YieldsList-from_slice}
use Rattle.std.proofs.lemmas.Iterator.Search.{find_from_yields_List}
use Rattle.terms.specs.declared.kind.Kind.{Kind}
use Rattle.terms.specs.declared.kind.Kind.TheVariants.{Number, Truth}
use Rattle.terms.specs.Operators.{result_of}
use Rattle.reckoning.specs.Kinds.{asked, kinds_fit}
use Rattle.checking.proofs.kinding.given_kind.Goals as goal

first_of : {X Y : Type 0} (f : X → Y) (p : X → Bool) (x y : X) → option_map f (find p (x ∷ y ∷ [])) ≡ cond (p x) (Some (f x)) (cond (p y) (Some (f y)) None)
first_of f p x y = by (p x) (p y) where
  by : (b d : Bool) → option_map f (cond b (Some x) (cond d (Some y) None)) ≡ cond b (Some (f x)) (cond d (Some (f y)) None)
  by true d = refl
  by false true = refl
  by false false = refl

pub returns : goal.returns
returns c =
    let found = find_from_yields_List (λ (k : Kind). kinds_fit k c.args.operator c.args.a c.args.b c.args.c) _ _ c.find.result c.find.ensures.ran (YieldsList-from_slice (Number ∷ Truth ∷ []) cc) (λ x b q k. search (rules, tests)) in
    let given : c.map.result ≡ option_map (λ k. asked k (result_of c.args.operator)) (option_map (λ k. k.now) c.find.result) = search rules in
    given ∙ ap (option_map (λ k. asked k (result_of c.args.operator))) found
    ∙ first_of (λ k. asked k (result_of c.args.operator)) (λ k. kinds_fit k c.args.operator c.args.a c.args.b c.args.c) Number Truth
