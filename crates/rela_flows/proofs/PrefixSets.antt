-- Two prefixes of one family, as sets of addresses.
use Rattle.std.proofs.Common.{◌≡◌, ℕ, ◌-◌, ◌/◌, ◌^◌, ◌≤◌, ◌<◌, ◌↔◌, Bool, false, nat_le, sym, ◌∙◌, arith, ⊎_elim, subst, eq-eqb}
use Rattle.std.specs.Prelude.{IsTrue, ◌==◌, min}
use Rattle.std.proofs.lemmas.Bool.{eqb-true, lt-leb, cases_lt}
use Rattle.rela_flows.specs.Address.{AgreeInFirst, IsWithin, Overlap}
use Rattle.rela_flows.specs.Address.Address.{Ipv4, Ipv6}
use Rattle.rela_flows.specs.declared.prefix.Prefix.{Prefix}
use Rattle.rela_flows.specs.declared.prefix.Prefix.TheVariants.{V4, V6}
use Rattle.rela_flows.specs.declared.prefix.Ipv4Prefix.{Ipv4Prefix}
use Rattle.rela_flows.specs.declared.prefix.Ipv6Prefix.{Ipv6Prefix}
use Rattle.rela_flows.proofs.FirstBits.{IsBlock, own_number, covered, fewer_from_covered, coarser}

pub block4 : (p : Ipv4Prefix) → IsBlock 32 p.length p.address
block4 p = record { fits = p.length_fits; small = p.address_fits; zeros = p.host_bits_zero }

block6 : (p : Ipv6Prefix) → IsBlock 128 p.length p.address
block6 p = record { fits = p.length_fits; small = p.address_fits; zeros = p.host_bits_zero }

-- within, for numbers
covers : (w n m x y r s : ℕ) → IsBlock w n x → m ≤ n → r ≡ x / 2 ^ (w - m) → s ≡ y / 2 ^ (w - m) → IsTrue (r == s) ↔ ((a : ℕ) → AgreeInFirst w n a x → AgreeInFirst w m a y)
covers w n m x y r s block fewer e f = (
  (λ same. covered w n m x y block.fits fewer (sym e ∙ eqb-true r s same ∙ f)),
  λ within. eq-eqb r s (e ∙ (within x (own_number w n x block)).first_bits ∙ sym f),
)

-- where neither holds, each says as much as the other
pub neither : (b : Bool) (W : Type 0) → b ≡ false → (W → ⊥) → IsTrue b ↔ W
neither b W fails never = ((λ holds. cc), λ w. absurd (never w))

-- overlaps, for numbers
meets : (w n m x y k r s : ℕ) → IsBlock w n x → IsBlock w m y → k ≡ min n m → r ≡ x / 2 ^ (w - k) → s ≡ y / 2 ^ (w - k) → IsTrue (r == s) ↔ ((a : ℕ) × AgreeInFirst w n a x × AgreeInFirst w m a y)
meets w n m x y k r s one two least e f = (
  (λ same.
      let agree : x / 2 ^ (w - k) ≡ y / 2 ^ (w - k) = sym e ∙ eqb-true r s same ∙ f in
      ⊎_elim
      (λ shorter.
      let is : k ≡ n = omega arith in
      (y, record { fits = two.small; first_bits = sym (subst (λ j. x / 2 ^ (w - j) ≡ y / 2 ^ (w - j)) is agree) }, own_number w m y two))
      (λ longer.
      let is : k ≡ m = omega arith in
      (x, own_number w n x one, record { fits = one.small; first_bits = subst (λ j. x / 2 ^ (w - j) ≡ y / 2 ^ (w - j)) is agree }))
      (cases_lt n m)),
  λ (a, left, right). eq-eqb r s
      (e ∙ sym (coarser w n k a x (omega arith) one.fits left.first_bits)
      ∙ coarser w m k a y (omega arith) two.fits right.first_bits ∙ sym f),
)

-- V4
among4 : (p q : Ipv4Prefix) → ((a : ℕ) → AgreeInFirst 32 p.length a p.address → AgreeInFirst 32 q.length a q.address) → IsWithin (V4 p) (V4 q)
among4 p q each (Ipv4 a) has = each a has
among4 p q each (Ipv6 a) has = has

common4 : (p q : Ipv4Prefix) → Overlap (V4 p) (V4 q) → (a : ℕ) × AgreeInFirst 32 p.length a p.address × AgreeInFirst 32 q.length a q.address
common4 p q (Ipv4 a, left, right) = (a, left, right)
common4 p q (Ipv6 a, left, right) = absurd left

pub within4 : (P Q : Prefix) (p q : Ipv4Prefix) → P ≡ V4 p → Q ≡ V4 q → q.length ≤ p.length → (r s : ℕ) → r ≡ p.address / 2 ^ (32 - q.length) → s ≡ q.address / 2 ^ (32 - q.length) → IsTrue (r == s) ↔ IsWithin P Q
within4 P Q p q ip iq fewer r s e f =
    let test : IsTrue (r == s) ↔ ((a : ℕ) → AgreeInFirst 32 p.length a p.address → AgreeInFirst 32 q.length a q.address) = covers 32 p.length q.length p.address q.address r s (block4 p) fewer e f in
    rw (ip, iq) ((λ same. among4 p q (test.0 same)), λ within. test.1 (λ a. within (Ipv4 a)))

fewer4 : (P Q : Prefix) (p q : Ipv4Prefix) → P ≡ V4 p → Q ≡ V4 q → IsWithin P Q → q.length ≤ p.length
fewer4 P Q p q ip iq within =
    let each : IsWithin (V4 p) (V4 q) = rw (ip, iq) at within in
    fewer_from_covered 32 p.length q.length p.address q.address (block4 p) q.length_fits (λ a. each (Ipv4 a))

pub longer4 : (P Q : Prefix) (p q : Ipv4Prefix) → P ≡ V4 p → Q ≡ V4 q → p.length < q.length → IsTrue (nat_le q.length p.length) ↔ IsWithin P Q
longer4 P Q p q ip iq longer =
    neither _ _ (lt-leb q.length p.length longer) (λ within. let fewer : q.length ≤ p.length = fewer4 P Q p q ip iq within in absurd (omega arith))

pub overlaps4 : (P Q : Prefix) (p q : Ipv4Prefix) → P ≡ V4 p → Q ≡ V4 q → (k r s : ℕ) → k ≡ min p.length q.length → r ≡ p.address / 2 ^ (32 - k) → s ≡ q.address / 2 ^ (32 - k) → IsTrue (r == s) ↔ Overlap P Q
overlaps4 P Q p q ip iq k r s least e f =
    let test : IsTrue (r == s) ↔ ((a : ℕ) × AgreeInFirst 32 p.length a p.address × AgreeInFirst 32 q.length a q.address) = meets 32 p.length q.length p.address q.address k r s (block4 p) (block4 q) least e f in
    rw (ip, iq) ((λ same. let found : (a : ℕ) × AgreeInFirst 32 p.length a p.address × AgreeInFirst 32 q.length a q.address = test.0 same in (Ipv4 found.0, found.1, found.2)), λ overlap. test.1 (common4 p q overlap))

-- a prefix is not within one of the other family
pub apart4 : (P Q : Prefix) (p : Ipv4Prefix) (q : Ipv6Prefix) → P ≡ V4 p → Q ≡ V6 q → IsWithin P Q → ⊥
apart4 P Q p q ip iq within =
    let each : IsWithin (V4 p) (V6 q) = rw (ip, iq) at within in
    each (Ipv4 p.address) (own_number 32 p.length p.address (block4 p))

-- V6
among6 : (p q : Ipv6Prefix) → ((a : ℕ) → AgreeInFirst 128 p.length a p.address → AgreeInFirst 128 q.length a q.address) → IsWithin (V6 p) (V6 q)
among6 p q each (Ipv6 a) has = each a has
among6 p q each (Ipv4 a) has = has

common6 : (p q : Ipv6Prefix) → Overlap (V6 p) (V6 q) → (a : ℕ) × AgreeInFirst 128 p.length a p.address × AgreeInFirst 128 q.length a q.address
common6 p q (Ipv6 a, left, right) = (a, left, right)
common6 p q (Ipv4 a, left, right) = absurd left

pub within6 : (P Q : Prefix) (p q : Ipv6Prefix) → P ≡ V6 p → Q ≡ V6 q → q.length ≤ p.length → (r s : ℕ) → r ≡ p.address / 2 ^ (128 - q.length) → s ≡ q.address / 2 ^ (128 - q.length) → IsTrue (r == s) ↔ IsWithin P Q
within6 P Q p q ip iq fewer r s e f =
    let test : IsTrue (r == s) ↔ ((a : ℕ) → AgreeInFirst 128 p.length a p.address → AgreeInFirst 128 q.length a q.address) = covers 128 p.length q.length p.address q.address r s (block6 p) fewer e f in
    rw (ip, iq) ((λ same. among6 p q (test.0 same)), λ within. test.1 (λ a. within (Ipv6 a)))

fewer6 : (P Q : Prefix) (p q : Ipv6Prefix) → P ≡ V6 p → Q ≡ V6 q → IsWithin P Q → q.length ≤ p.length
fewer6 P Q p q ip iq within =
    let each : IsWithin (V6 p) (V6 q) = rw (ip, iq) at within in
    fewer_from_covered 128 p.length q.length p.address q.address (block6 p) q.length_fits (λ a. each (Ipv6 a))

pub longer6 : (P Q : Prefix) (p q : Ipv6Prefix) → P ≡ V6 p → Q ≡ V6 q → p.length < q.length → IsTrue (nat_le q.length p.length) ↔ IsWithin P Q
longer6 P Q p q ip iq longer =
    neither _ _ (lt-leb q.length p.length longer) (λ within. let fewer : q.length ≤ p.length = fewer6 P Q p q ip iq within in absurd (omega arith))

pub overlaps6 : (P Q : Prefix) (p q : Ipv6Prefix) → P ≡ V6 p → Q ≡ V6 q → (k r s : ℕ) → k ≡ min p.length q.length → r ≡ p.address / 2 ^ (128 - k) → s ≡ q.address / 2 ^ (128 - k) → IsTrue (r == s) ↔ Overlap P Q
overlaps6 P Q p q ip iq k r s least e f =
    let test : IsTrue (r == s) ↔ ((a : ℕ) × AgreeInFirst 128 p.length a p.address × AgreeInFirst 128 q.length a q.address) = meets 128 p.length q.length p.address q.address k r s (block6 p) (block6 q) least e f in
    rw (ip, iq) ((λ same. let found : (a : ℕ) × AgreeInFirst 128 p.length a p.address × AgreeInFirst 128 q.length a q.address = test.0 same in (Ipv6 found.0, found.1, found.2)), λ overlap. test.1 (common6 p q overlap))

-- a prefix is not within one of the other family
pub apart6 : (P Q : Prefix) (p : Ipv6Prefix) (q : Ipv4Prefix) → P ≡ V6 p → Q ≡ V4 q → IsWithin P Q → ⊥
apart6 P Q p q ip iq within =
    let each : IsWithin (V6 p) (V4 q) = rw (ip, iq) at within in
    each (Ipv6 p.address) (own_number 128 p.length p.address (block6 p))
