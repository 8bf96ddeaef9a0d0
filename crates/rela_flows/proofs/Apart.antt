-- Prefixes of one length have no address in common, unless they are equal.
use Rattle.std.proofs.Common.{◌≡◌, ℕ, ◌-◌, ◌*◌, ◌/◌, ◌%◌, ◌^◌, sym, ◌∙◌, ap, subst, arith}
use Rattle.std.proofs.lemmas.Nat.{div-add-mod'}
use Rattle.rela_flows.specs.Address.{AgreeInFirst, Overlap}
use Rattle.rela_flows.specs.Address.Address.{Ipv4, Ipv6}
use Rattle.rela_flows.specs.declared.prefix.Ipv4Prefix.{Ipv4Prefix}
use Rattle.rela_flows.specs.declared.prefix.Ipv6Prefix.{Ipv6Prefix}
use Rattle.rela_flows.specs.declared.prefix.Prefix.TheVariants.{V4, V6}
use Rattle.rela_flows.proofs.SamePrefix.{same4, same6}

-- two blocks of one size that have a number in common begin with one number
same_number : (w n x y a : ℕ) → x % 2 ^ (w - n) ≡ 0 → y % 2 ^ (w - n) ≡ 0 → AgreeInFirst w n a x → AgreeInFirst w n a y → x ≡ y
same_number w n x y a first second one two =
    let k : ℕ = 2 ^ (w - n) in
    let same : x / k ≡ y / k = sym one.first_bits ∙ two.first_bits in
    omega (arith, div-add-mod' x k, div-add-mod' y k, first, second, ap (λ q. q * k) same)

pub apart4 : (p q : Ipv4Prefix) → p.length ≡ q.length → Overlap (V4 p) (V4 q) → p ≡ q
apart4 p q e (Ipv4 a, one, two) =
    same4 p q e
    (same_number 32 p.length p.address q.address a p.host_bits_zero (subst (λ n. q.address % 2 ^ (32 - n) ≡ 0) (sym e) q.host_bits_zero) one (subst (λ n. AgreeInFirst 32 n a q.address) (sym e) two))
apart4 p q e (Ipv6 a, one, two) = absurd one

pub apart6 : (p q : Ipv6Prefix) → p.length ≡ q.length → Overlap (V6 p) (V6 q) → p ≡ q
apart6 p q e (Ipv6 a, one, two) =
    same6 p q e
    (same_number 128 p.length p.address q.address a p.host_bits_zero (subst (λ n. q.address % 2 ^ (128 - n) ≡ 0) (sym e) q.host_bits_zero) one (subst (λ n. AgreeInFirst 128 n a q.address) (sym e) two))
apart6 p q e (Ipv4 a, one, two) = absurd one
