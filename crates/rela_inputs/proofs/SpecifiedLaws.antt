-- Specifications that ask for checks that no file can tell apart ask for the same.
use Rattle.std.proofs.Common.{◌≡◌, ◌∙◌, ℕ, Bool, List, [], ◌∷◌, map, refl, sym, ap, subst}
use Rattle.std.specs.List.{All}
use Rattle.std.specs.List.Sorted.{IsStrictlyIncreasing}
use Rattle.std.proofs.lemmas.List.Elements.{All-head, All-tail}
use Rattle.std.proofs.Props.{props}
use Rattle.rela_expand.specs.Expand.{Expanded, listing_of, outcome_of}
use Rattle.rela_expand.specs.Numbering.{Listing}
use Rattle.rela_flows.specs.declared.predicate.Predicate.{Predicate}
use Rattle.rela_names.specs.declared.level.Level.{Level}
use Rattle.rela_rir.specs.declared.set.SymbolSet.{SymbolSet}
use Rattle.rela_translate.specs.Checked.{Checked as Check}
use Rattle.rela_translate.specs.declared.body.Core.{Core}
use Rattle.rela_inputs.specs.Specified.{SameSpecified, Specified}

ascending_prop : (members : List ℕ) → IsProp (IsStrictlyIncreasing members)
ascending_prop members = hlevel props

abbrev set_of : (negated : Bool) (members : List ℕ) → IsStrictlyIncreasing members → SymbolSet
set_of negated members ascending = record { negated = negated; members = members; ascending = ascending }

set_is : (negated : Bool) (members others : List ℕ) (same : members ≡ others) (x : IsStrictlyIncreasing members) (y : IsStrictlyIncreasing others)
    → set_of negated members x ≡ set_of negated others y
set_is negated members others same x y =
    (subst (λ (ms : List ℕ). (z : IsStrictlyIncreasing ms) → set_of negated members x ≡ set_of negated ms z) same
    (λ z. ap (set_of negated members) (ascending_prop members x z))) y

-- two sets with the same sign and the same members are the same
pub set_same : (s t : SymbolSet) → s.negated ≡ t.negated → s.members ≡ t.members → s ≡ t
set_same s t sign members =
    subst (λ (b : Bool). s ≡ set_of b t.members t.ascending) sign (set_is s.negated s.members t.members members s.ascending t.ascending)

sets_same : (ss ts : List SymbolSet) → map listing_of ss ≡ map listing_of ts → ss ≡ ts
sets_same [] [] same = refl
sets_same [] (t ∷ ts) same = absurd (cc)
sets_same (s ∷ ss) [] same = absurd (cc)
sets_same (s ∷ ss) (t ∷ ts) same =
    let first : listing_of s ≡ listing_of t = cc in
    let rest : map listing_of ss ≡ map listing_of ts = cc in
    let one : s ≡ t = set_same s t (ap (λ (l : Listing). l.negated) first) (ap (λ (l : Listing). l.members) first) in
    let more : ss ≡ ts = sets_same ss ts rest in
    cc

abbrev check_of : (name : List ℕ) (level : Level) (when : Predicate) (at_most : Bool) (classes : List SymbolSet) (body : Core) → Check
check_of name level when at_most classes body = record { name = name; level = level; when = when; at_most = at_most; classes = classes; body = body }

check_same : (a b : Check) → outcome_of a ≡ outcome_of b → a.level ≡ b.level → a ≡ b
check_same a b same level =
    let name : a.name ≡ b.name = ap (λ (x : Expanded). x.name) same in
    let at_most : a.at_most ≡ b.at_most = ap (λ (x : Expanded). x.at_most) same in
    let when : a.when ≡ b.when = ap (λ (x : Expanded). x.when) same in
    let body : a.body ≡ b.body = ap (λ (x : Expanded). x.body) same in
    let classes : a.classes ≡ b.classes = sets_same a.classes b.classes (ap (λ (x : Expanded). x.classes) same) in
    ap (λ (n : List ℕ). check_of n a.level a.when a.at_most a.classes a.body) name
    ∙ (ap (λ (l : Level). check_of b.name l a.when a.at_most a.classes a.body) level
    ∙ (ap (λ (p : Predicate). check_of b.name b.level p a.at_most a.classes a.body) when
    ∙ (ap (λ (m : Bool). check_of b.name b.level b.when m a.classes a.body) at_most
    ∙ (ap (λ (cs : List SymbolSet). check_of b.name b.level b.when b.at_most cs a.body) classes
    ∙ ap (λ (x : Core). check_of b.name b.level b.when b.at_most b.classes x) body))))

checks_same : (level other : Level) (xs ys : List Check) → level ≡ other → map outcome_of xs ≡ map outcome_of ys → All (λ check. check.level ≡ level) xs
    → All (λ check. check.level ≡ other) ys → xs ≡ ys
checks_same level other [] [] same outcomes here there = refl
checks_same level other [] (b ∷ ys) same outcomes here there = absurd (cc)
checks_same level other (a ∷ xs) [] same outcomes here there = absurd (cc)
checks_same level other (a ∷ xs) (b ∷ ys) same outcomes here there =
    let first : outcome_of a ≡ outcome_of b = cc in
    let rest : map outcome_of xs ≡ map outcome_of ys = cc in
    let levels : a.level ≡ b.level = All-head (λ (c : Check). c.level ≡ level) a xs here ∙ (same ∙ sym (All-head (λ (c : Check). c.level ≡ other) b ys there)) in
    let one : a ≡ b = check_same a b first levels in
    let more : xs ≡ ys = checks_same level other xs ys same rest (All-tail (λ (c : Check). c.level ≡ level) a xs here) (All-tail (λ (c : Check). c.level ≡ other) b ys there) in
    cc

abbrev specified_of : (level : Level) (checks : List Check) → Specified
specified_of level checks = record { level = level; checks = checks }

-- what no file can tell apart is asked for alike
pub specified_same : (a b : Specified) → SameSpecified a b → a ≡ b
specified_same a b same =
    let checks : a.checks ≡ b.checks = checks_same a.level b.level a.checks b.checks same.level same.checks same.levels same.others in
    ap (λ (l : Level). specified_of l a.checks) same.level ∙ ap (λ (cs : List Check). specified_of b.level cs) checks
