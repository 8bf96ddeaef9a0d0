-- What is said of two flows is the same exactly where each part is.
use Rattle.std.proofs.Common.{◌≡◌, ◌∙◌, Bool, true, false, not, ◌≢◌, ◌&&◌, refl, sym, ap}
use Rattle.std.specs.Prelude.{◌==◌, ℕ, ◌-◌, ◌/◌, ◌^◌}
use Rattle.std.specs.Str.{bytes_eq}
use Rattle.std.proofs.lemmas.Bool.{eq-eqb, eqb-true}
use Rattle.rela_flows.specs.Address.{Overlap, Ipv4, Ipv6}
use Rattle.rela_flows.specs.declared.predicate.FlowClass.{FlowClass}
use Rattle.rela_flows.specs.declared.prefix.Ipv4Prefix.{Ipv4Prefix}
use Rattle.rela_flows.specs.declared.prefix.Ipv6Prefix.{Ipv6Prefix}
use Rattle.rela_flows.specs.declared.prefix.Prefix.{Prefix}
use Rattle.rela_flows.specs.declared.prefix.Prefix.TheVariants.{V4, V6}
use Rattle.rela_flows.specs.contracts.prefix.PrefixPartialEq.TheImpl.{ghosts}
use Rattle.rela_snapshot.proofs.Distinct.{name_is_itself, same_name}

left_true : (a b : Bool) → (a && b) ≡ true → a ≡ true
left_true true b e = refl
left_true false b e = absurd (cc)

right_true : (a b : Bool) → (a && b) ≡ true → b ≡ true
right_true true b e = e
right_true false b e = absurd (cc)

-- ---- prefixes, as the derived `==` compares them

abbrev pub prefix_eq : Prefix → Prefix → Bool
prefix_eq (V4 p) (V4 q) = (p.address == q.address) && (p.length == q.length)
prefix_eq (V4 p) (V6 q) = false
prefix_eq (V6 p) (V4 q) = false
prefix_eq (V6 p) (V6 q) = (p.address == q.address) && (p.length == q.length)

prefix_is_itself : (p : Prefix) → prefix_eq p p ≡ true
prefix_is_itself (V4 p) = rw (eq-eqb p.address p.address refl, eq-eqb p.length p.length refl) refl
prefix_is_itself (V6 p) = rw (eq-eqb p.address p.address refl, eq-eqb p.length p.length refl) refl

-- what the derived `==` gives
abbrev pub derived_eq : Prefix → Prefix → Bool
derived_eq = ghosts.eq

derived_is : (p q : Prefix) → derived_eq p q ≡ prefix_eq p q
derived_is (V4 p) (V4 q) = refl
derived_is (V4 p) (V6 q) = refl
derived_is (V6 p) (V4 q) = refl
derived_is (V6 p) (V6 q) = refl

-- ---- the four parts

abbrev pub class_eq : FlowClass → FlowClass → Bool
class_eq a b = bytes_eq a.name b.name && (derived_eq a.dst b.dst && (derived_eq a.src b.src && bytes_eq a.class b.class))

class_is_itself : (a : FlowClass) → class_eq a a ≡ true
class_is_itself a = rw (name_is_itself a.name, derived_is a.dst a.dst ∙ prefix_is_itself a.dst, derived_is a.src a.src ∙ prefix_is_itself a.src, name_is_itself a.class) refl

-- what the derived `!=` tells
not_false : (b : Bool) → not b ≡ false → b ≡ true
not_false true e = refl
not_false false e = absurd (cc)

pub classes_differ : (r : Bool) (a b : FlowClass) → r ≡ not (class_eq a b) → r ≡ true → a ≢ b
classes_differ r a b is holds = λ same.
    let itself : class_eq a b ≡ true = ap (class_eq a) (sym same) ∙ class_is_itself a in
    let no_such : true ≡ false = sym holds ∙ is ∙ ap not itself in
    absurd (cc)

-- ---- what `==` calls equal is equal

-- prefixes of one length that have an address in common are equal
pub record AreApart : Type 0 where
  pub ipv4 : (p q : Ipv4Prefix) → p.length ≡ q.length → Overlap (V4 p) (V4 q) → p ≡ q
  pub ipv6 : (p q : Ipv6Prefix) → p.length ≡ q.length → Overlap (V6 p) (V6 q) → p ≡ q

-- prefixes of one family with the same numbers have an address in common
meet4 : (p q : Ipv4Prefix) → p.address ≡ q.address → Overlap (V4 p) (V4 q)
meet4 p q address = (
  Ipv4 p.address,
  record { fits = p.address_fits; first_bits = refl },
  record { fits = p.address_fits; first_bits = ap (λ (a : ℕ). a / 2 ^ (32 - q.length)) address },
)

meet6 : (p q : Ipv6Prefix) → p.address ≡ q.address → Overlap (V6 p) (V6 q)
meet6 p q address = (
  Ipv6 p.address,
  record { fits = p.address_fits; first_bits = refl },
  record { fits = p.address_fits; first_bits = ap (λ (a : ℕ). a / 2 ^ (128 - q.length)) address },
)

module _ (apart : AreApart) where
  same4 : (p q : Ipv4Prefix) → p.length ≡ q.length → p.address ≡ q.address → p ≡ q
  same4 p q length address = apart.ipv4 p q length (meet4 p q address)

  same6 : (p q : Ipv6Prefix) → p.length ≡ q.length → p.address ≡ q.address → p ≡ q
  same6 p q length address = apart.ipv6 p q length (meet6 p q address)

  same_prefix : (p q : Prefix) → prefix_eq p q ≡ true → p ≡ q
  same_prefix (V4 p) (V4 q) e = ap V4 (same4 p q (eqb-true p.length q.length (right_true (p.address == q.address) (p.length == q.length) e)) (eqb-true p.address q.address (left_true (p.address == q.address) (p.length == q.length) e)))
  same_prefix (V4 p) (V6 q) e = absurd (cc)
  same_prefix (V6 p) (V4 q) e = absurd (cc)
  same_prefix (V6 p) (V6 q) e = ap V6 (same6 p q (eqb-true p.length q.length (right_true (p.address == q.address) (p.length == q.length) e)) (eqb-true p.address q.address (left_true (p.address == q.address) (p.length == q.length) e)))

  same_class : (a b : FlowClass) → class_eq a b ≡ true → a ≡ b
  same_class a b e =
      let rest = right_true (bytes_eq a.name b.name) _ e in
      let last = right_true (derived_eq a.dst b.dst) _ rest in
      let name : a.name ≡ b.name = same_name a.name b.name (left_true (bytes_eq a.name b.name) _ e) in
      let dst : a.dst ≡ b.dst = same_prefix a.dst b.dst (sym (derived_is a.dst b.dst) ∙ left_true (derived_eq a.dst b.dst) _ rest) in
      let src : a.src ≡ b.src = same_prefix a.src b.src (sym (derived_is a.src b.src) ∙ left_true (derived_eq a.src b.src) _ last) in
      let class : a.class ≡ b.class = same_name a.class b.class (right_true (derived_eq a.src b.src) _ last) in
      λ i. record { name = name i; dst = dst i; src = src i; class = class i }

  pub classes_agree : (r : Bool) (a b : FlowClass) → r ≡ not (class_eq a b) → r ≡ false → a ≡ b
  classes_agree r a b is fails = same_class a b (not_false (class_eq a b) (sym is ∙ fails))
