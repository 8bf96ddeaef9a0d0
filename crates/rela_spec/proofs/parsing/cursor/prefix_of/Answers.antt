use Rattle.std.proofs.Common.{◌≡◌, ◌↔◌, Option, None, Some, refl, sym}
use Rattle.rela_flows.specs.declared.prefix.Prefix.{Prefix}
use Rattle.rela_spec.proofs.parsing.cursor.prefix_of.Goals as goal

-- what holds the values of one relation is equal
same_found : (R : Prefix → Type 0) (found other : Option Prefix) → ((p : Prefix) → (found ≡ Some p) ↔ R p) → ((p : Prefix) → (other ≡ Some p) ↔ R p) → found ≡ other
same_found R None None first second = refl
same_found R None (Some p) first second = (first p).1 ((second p).0 refl)
same_found R (Some p) other first second = sym ((second p).1 ((first p).0 refl))

pub returns : goal.returns
returns c = same_found _ _ _ c.parse.ensures (c.prefixes_are_read_exactly.ensures c.args.word.now)
