-- What the declared types say of variables: the kinds and the bounds of their values and shadows.
use Rattle.std.specs.Prelude.{List, map, pos, negsuc, Some, Option}
use Rattle.std.specs.Option.{option_map}
use Rattle.std.specs.List.{slice_get}
use Rattle.terms.specs.declared.kind.Kind.{Kind}
use Rattle.terms.specs.declared.kind.Kind.TheVariants.{Number, Truth}
use Rattle.jcode.specs.declared.mention.Aspect.{Aspect}
use Rattle.jcode.specs.declared.mention.Aspect.TheVariants.{Value, Shadow}
use Rattle.jcode.specs.declared.mention.Mention.{Mention}
use Rattle.jcode.specs.declared.variable.Domain.{Domain}
use Rattle.jcode.specs.declared.variable.Domain.TheVariants.{Integer, Boolean, Subrange}
use Rattle.jcode.specs.declared.variable.Variable.{Variable}
use Rattle.jcode.specs.Units.{JUnit}
use Rattle.reckoning.specs.declared.mark.Mark.{Mark}
use Rattle.reckoning.specs.Ranges.{between}

abbrev pub domain_kind : Domain → Kind
domain_kind Integer = Number
domain_kind Boolean = Truth
domain_kind (Subrange low high) = Number

abbrev pub domain_bounds : Domain → Mark
domain_bounds Integer = between (negsuc 32767) (pos 32767)
domain_bounds Boolean = between (pos 0) (pos 1)
domain_bounds (Subrange low high) = between low high

-- the types of a unit's variables, and those in the variable table
abbrev pub domains : JUnit → List Domain
domains u = map (λ d. d.domain) u.variables

abbrev pub domains_in : List Variable → List Domain
domains_in vs = map (λ v. v.domain) vs

-- of what a term mentions, where variables have these types: a shadow is a truth
abbrev pub aspect_domain : Aspect → Option Domain → Option Domain
aspect_domain Value d = d
aspect_domain Shadow d = Some Boolean

abbrev pub mention_domain : List Domain → Mention → Option Domain
mention_domain ds m = aspect_domain m.aspect (slice_get ds m.variable)

abbrev pub mention_kind : List Domain → Mention → Option Kind
mention_kind ds m = option_map domain_kind (mention_domain ds m)

abbrev pub mention_bounds : List Domain → Mention → Option Mark
mention_bounds ds m = option_map domain_bounds (mention_domain ds m)
