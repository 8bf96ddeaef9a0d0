-- Where two colons stand in the text of an IPv6 address.
use Rattle.std.proofs.Common.{◌≡◌, ◌≢◌, ℕ, ◌+◌, ◌-◌, ◌<◌, ◌≤◌, List, [], ◌∷◌, ◌++◌, length, get_or, take, drop, sym, ◌∙◌, ap, subst, ⊎_elim, append_assoc, length-append, arith}
use Rattle.std.specs.List.{AllZip, join_with_byte}
use Rattle.std.proofs.lemmas.Bool.{cases_lt}
use Rattle.std.proofs.lemmas.List.{get_or_append_left, get_or-append-add, get_or_past, append-nil, take_at, drop_at, drop-drop, drop_more, take-append-drop}
use Rattle.rela_flows.specs.declared.prefix.reading.Notation.TheVariants.{Colons}
use Rattle.rela_flows.specs.Notation.{IsGroup, IsWholeIpv6Address, IsShortIpv6Address}
use Rattle.rela_flows.specs.Fields.{IsGap}
use Rattle.rela_flows.proofs.FieldRuns.{field_avoids, field_some}

-- a text with something before it
before : (front back : List ℕ) (k : ℕ) → IsGap (front ++ back) (length front + k) → IsGap back k
before front back k gap = record {
  first = sym (get_or-append-add front back k 0) ∙ gap.first;
  second = sym (get_or-append-add front back (k + 1) 0) ∙ ap (λ j. get_or (front ++ back) j 0) (let e : length front + (k + 1) ≡ length front + k + 1 = omega arith in e) ∙ gap.second;
}

-- the first byte of a group is no colon
opens : (group more : List ℕ) (n : ℕ) → IsGroup group n → get_or (group ++ more) 0 0 ≢ 58
opens group more n is colon =
    let some : 0 < length group = field_some Colons group n is in
    field_avoids Colons group n is 0 0 some (sym (get_or_append_left group more 0 0 some) ∙ colon)

-- no gap begins within a group
not_inside : (group more : List ℕ) (n k : ℕ) → IsGroup group n → k < length group → IsGap (group ++ more) k → ⊥
not_inside group more n k is inside gap =
    field_avoids Colons group n is k 0 inside (sym (get_or_append_left group more 0 k inside) ∙ gap.first)

-- a group follows the colon, and no colon
no_gap_at_group : (group : List ℕ) (groups : List (List ℕ)) (n : ℕ) (ns : List ℕ) → AllZip IsGroup (group ∷ groups) (n ∷ ns) → (tail : List ℕ) → IsGap (58 ∷ (join_with_byte 58 (group ∷ groups) ++ tail)) 0 → ⊥
no_gap_at_group group [] n ns each tail gap = opens group tail n each.0 gap.second
no_gap_at_group group (next ∷ more) n ns each tail gap =
    opens group (58 ∷ (join_with_byte 58 (next ∷ more) ++ tail)) n each.0
    (subst (λ t. get_or t 0 0 ≡ 58) (append_assoc group (58 ∷ join_with_byte 58 (next ∷ more)) tail) gap.second)

-- no gap begins within groups
pub gap_after : (groups : List (List ℕ)) (numbers : List ℕ) → AllZip IsGroup groups numbers → (tail : List ℕ) (k : ℕ) → IsGap (join_with_byte 58 groups ++ tail) k → length (join_with_byte 58 groups) ≤ k
gap_after [] numbers each tail k gap = omega arith
gap_after (group ∷ groups) [] each tail k gap = absurd each
gap_after (group ∷ []) (n ∷ ns) each tail k gap = ⊎_elim
    (λ inside. absurd (not_inside group tail n k each.0 inside gap)) (λ past. past) (cases_lt k (length group))
gap_after (group ∷ next ∷ more) (n ∷ []) each tail k gap = absurd each.1
gap_after (group ∷ next ∷ more) (n ∷ m ∷ ms) each tail k gap =
    let rest : List ℕ = join_with_byte 58 (next ∷ more) in
    let regrouped : (group ++ (58 ∷ rest)) ++ tail ≡ group ++ (58 ∷ (rest ++ tail)) = append_assoc group (58 ∷ rest) tail in
    let there : IsGap (group ++ (58 ∷ (rest ++ tail))) k = subst (λ t. IsGap t k) regrouped gap in
    ⊎_elim
    (λ inside. absurd (not_inside group (58 ∷ (rest ++ tail)) n k each.0 inside there))
    (λ past.
    let j : ℕ = k - length group in
    let here : IsGap (58 ∷ (rest ++ tail)) j = before group (58 ∷ (rest ++ tail)) j (subst (IsGap (group ++ (58 ∷ (rest ++ tail)))) (let e : k ≡ length group + j = omega arith in e) there) in
    ⊎_elim
    (λ at. absurd (no_gap_at_group next more m ms each.1 tail (subst (IsGap (58 ∷ (rest ++ tail))) (let e : j ≡ 0 = omega arith in e) here)))
    (λ beyond.
    let i : ℕ = j - 1 in
    let in_rest : IsGap (rest ++ tail) i = before (58 ∷ []) (rest ++ tail) i (subst (IsGap (58 ∷ (rest ++ tail))) (let e : j ≡ 1 + i = omega arith in e) here) in
    let less : length rest ≤ i = gap_after (next ∷ more) (m ∷ ms) each.1 tail i in_rest in
    omega (arith, length-append group (58 ∷ rest)))
    (cases_lt j 1))
    (cases_lt k (length group))

-- eight groups hold no gap
pub whole_no_gap : (text : List ℕ) (a k : ℕ) → IsWholeIpv6Address text a → IsGap text k → ⊥
whole_no_gap text a k whole gap =
    let joined : text ≡ join_with_byte 58 whole.written.fields ++ [] = whole.written.joined ∙ sym (append-nil (join_with_byte 58 whole.written.fields)) in
    let past : length (join_with_byte 58 whole.written.fields) ≤ k = gap_after whole.written.fields whole.groups whole.written.each [] k (subst (λ t. IsGap t k) joined gap) in
    let ends : length text ≤ k = rw whole.written.joined past in
    let zero_is : get_or text k 0 ≡ 0 = get_or_past text k 0 ends in
    let colon : get_or text k 0 ≡ 58 = gap.first in
    omega arith

-- the two colons of a short address are a gap
pub short_gap : (text : List ℕ) (a : ℕ) (short : IsShortIpv6Address text a) → IsGap text (length short.left_text)
short_gap text a short =
    let back : List ℕ = 58 ∷ 58 ∷ short.right_text in
    rw short.joined (record {
      first = ap (λ j. get_or (short.left_text ++ back) j 0) (let e : length short.left_text ≡ length short.left_text + 0 = omega arith in e) ∙ get_or-append-add short.left_text back 0 0;
      second = get_or-append-add short.left_text back 1 0;
    })

-- the first gap of a short address is where its left part ends
pub short_at : (text : List ℕ) (a i : ℕ) (short : IsShortIpv6Address text a) → IsGap text i → ((k : ℕ) → k < i → ¬ IsGap text k) → length short.left_text ≡ i
short_at text a i short gap first =
    let left : length (join_with_byte 58 short.left_written.fields) ≤ i =
    gap_after short.left_written.fields short.left short.left_written.each (58 ∷ 58 ∷ short.right_text) i
    (subst (λ t. IsGap (t ++ 58 ∷ 58 ∷ short.right_text) i) short.left_written.joined (rw short.joined at gap)) in
    let within : length short.left_text ≤ i = rw short.left_written.joined left in
    ⊎_elim (λ earlier. absurd (first (length short.left_text) earlier (short_gap text a short))) (λ later. omega arith)
    (cases_lt (length short.left_text) i)

pub short_left : (text : List ℕ) (a i : ℕ) (short : IsShortIpv6Address text a) → length short.left_text ≡ i → take i text ≡ short.left_text
short_left text a i short at = rw short.joined (take_at short.left_text (58 ∷ 58 ∷ short.right_text) i at)

pub short_right : (text : List ℕ) (a i : ℕ) (short : IsShortIpv6Address text a) → length short.left_text ≡ i → drop (i + 2) text ≡ short.right_text
short_right text a i short at =
    rw short.joined
    (sym (drop-drop 2 i (short.left_text ++ 58 ∷ 58 ∷ short.right_text))
    ∙ ap (drop 2) (drop_at short.left_text (58 ∷ 58 ∷ short.right_text) i at))

pub gap_room : (text : List ℕ) (i : ℕ) → IsGap text i → i + 2 ≤ length text
gap_room text i gap = ⊎_elim
    (λ short.
    let zero_is : get_or text (i + 1) 0 ≡ 0 = get_or_past text (i + 1) 0 (omega arith) in
    let colon : get_or text (i + 1) 0 ≡ 58 = gap.second in
    absurd (omega arith))
    (λ long. long)
    (cases_lt (length text) (i + 2))

-- a text is what stands before a gap, two colons and what stands after
pub around_gap : (text : List ℕ) (i : ℕ) → IsGap text i → text ≡ take i text ++ 58 ∷ 58 ∷ drop (i + 2) text
around_gap text i gap =
    let room : i + 2 ≤ length text = gap_room text i gap in
    sym (take-append-drop i text)
    ∙ ap (λ l. take i text ++ l)
    (drop_more text i 0 (omega arith) ∙ ap (λ b. b ∷ drop (i + 1) text) gap.first
    ∙ ap (λ l. 58 ∷ l)
    (drop_more text (i + 1) 0 (omega arith) ∙ ap (λ b. b ∷ drop (i + 1 + 1) text) gap.second
    ∙ ap (λ j. 58 ∷ drop j text) (let e : i + 1 + 1 ≡ i + 2 = omega arith in e)))
