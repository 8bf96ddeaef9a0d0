-- There is one list of classes.
use Rattle.std.proofs.Common.{◌≡◌, ◌∙◌, refl, sym, ap, subst, ℕ, ◌+◌, ◌-◌, ◌^◌, ◌≤◌, List, [], ◌∷◌, pow_pos, arith}
use Rattle.std.specs.List.{All}
use Rattle.std.proofs.lemmas.List.Elements.{All-head, All-tail}
use Rattle.rela_flows.specs.declared.prefix.Ipv4Prefix.{Ipv4Prefix}
use Rattle.rela_prefixes.specs.Classes.{Adjoin, AreClasses, IsClass}
use Rattle.rela_prefixes.specs.Holding.{Holds}
use Rattle.rela_prefixes.proofs.Cells.{size, holds_own}
use Rattle.rela_prefixes.proofs.Nesting.{AreApart}
use Rattle.rela_prefixes.proofs.Order.{same_class}

adjoin_grows : (from to : ℕ) (cs : List Ipv4Prefix) → Adjoin from cs to → from ≤ to
adjoin_grows from to [] h = omega (arith, h)
adjoin_grows from to (c ∷ cs) h = omega (arith, adjoin_grows (from + size c.length) to cs h.1)

adjoin_unique : AreApart → (prefixes : List Ipv4Prefix) (from to : ℕ) (cs ds : List Ipv4Prefix) → All (IsClass prefixes) cs → All (IsClass prefixes) ds → Adjoin from cs to → Adjoin from ds to → cs ≡ ds
adjoin_unique apart prefixes from to [] [] each_c each_d h k = refl
adjoin_unique apart prefixes from to [] (d ∷ ds) each_c each_d h k = absurd (omega (arith, h, pow_pos (32 - d.length), adjoin_grows (from + size d.length) to ds k.1))
adjoin_unique apart prefixes from to (c ∷ cs) [] each_c each_d h k = absurd (omega (arith, k, pow_pos (32 - c.length), adjoin_grows (from + size c.length) to cs h.1))
adjoin_unique apart prefixes from to (c ∷ cs) (d ∷ ds) each_c each_d h k =
    let two : Holds d c.address = subst (λ a. Holds d a) (k.0 ∙ sym h.0) (holds_own d) in
    let same : c ≡ d = same_class apart prefixes c d c.address (All-head (IsClass prefixes) c cs each_c) (All-head (IsClass prefixes) d ds each_d) (holds_own c) two in
    let rest : Adjoin (from + size c.length) ds to = subst (λ (p : Ipv4Prefix). Adjoin (from + size p.length) ds to) (sym same) k.1 in
    ap (λ (p : Ipv4Prefix). p ∷ cs) same ∙ ap (λ (ps : List Ipv4Prefix). d ∷ ps) (adjoin_unique apart prefixes (from + size c.length) to cs ds (All-tail (IsClass prefixes) c cs each_c) (All-tail (IsClass prefixes) d ds each_d) h.1 rest)

pub classes_unique : AreApart → (prefixes cs ds : List Ipv4Prefix) → AreClasses prefixes cs → AreClasses prefixes ds → cs ≡ ds
classes_unique apart prefixes cs ds are_c are_d = adjoin_unique apart prefixes 0 (2 ^ 32) cs ds are_c.each are_d.each are_c.in_order are_d.in_order
