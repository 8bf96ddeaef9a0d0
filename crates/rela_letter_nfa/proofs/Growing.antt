-- Lists of states that grow at the end.
use Rattle.std.proofs.Common.{◌≡◌, ℕ, ◌+◌, ◌<◌, ◌≤◌, ◌⊎◌, ◌↔◌, List, [], ◌∷◌, ◌++◌, length, get_or, map, take, inl, inr, arith, sym, ap, ◌∙◌, subst, append_assoc, append-nil, length-append}
use Rattle.std.specs.List.{Contains}
use Rattle.std.proofs.lemmas.List.{get_or_append_left, map_more}
use Rattle.std.proofs.lemmas.List.Elements.{Contains-append_left, Contains-push, Contains-push_cases}
use Rattle.rela_letter_nfa.specs.Sets.{Adds, Inserts}
use Rattle.rela_letter_nfa.proofs.Members.{Contains-nil}

pub adds_keeps : {P : ℕ → Type 0} (old new : List ℕ) → Adds P old new → (m : ℕ) → Contains old m → Contains new m
adds_keeps old new adds m c = subst (λ l. Contains l m) (sym adds.longer.1) (Contains-append_left old adds.longer.0 m c)

pub adds_nothing : (P : ℕ → Type 0) (now : List ℕ) → ((m : ℕ) → P m → ⊥) → Adds P now now
adds_nothing P now none = record { longer = ([], sym (append-nil now)); each = λ m c. inl c; all = λ m holds. absurd (none m holds) }

-- to no state just those of P were added
pub adds_all : (P : ℕ → Type 0) (now : List ℕ) → Adds P [] now → (q : ℕ) → Contains now q ↔ P q
adds_all P now adds q = (λ c. elim (adds.each q c) [ inl none ↦ absurd (Contains-nil q none) | inr holds ↦ holds ], adds.all q)

-- one after the other
pub adds_both : (P Q R : ℕ → Type 0) (old mid new : List ℕ) → Adds P old mid → Adds Q mid new → ((m : ℕ) → P m → R m) → ((m : ℕ) → Q m → R m)
    → ((m : ℕ) → R m → P m ⊎ Q m) → Adds R old new
adds_both P Q R old mid new first second left right cases = record {
  longer = (first.longer.0 ++ second.longer.0, second.longer.1 ∙ ap (λ l. l ++ second.longer.0) first.longer.1 ∙ append_assoc old first.longer.0 second.longer.0);
  each = λ m c. elim (second.each m c) [
    | inl before ↦ elim (first.each m before) [ inl there ↦ inl there | inr one ↦ inr (left m one) ]
    | inr two ↦ inr (right m two)
  ];
  all = λ m holds. elim (cases m holds) [ inl one ↦ adds_keeps mid new second m (first.all m one) | inr two ↦ second.all m two ];
}

-- the same states, told in another way
pub adds_same : (P Q : ℕ → Type 0) (old new : List ℕ) → ((m : ℕ) → P m ↔ Q m) → Adds P old new → Adds Q old new
adds_same P Q old new same adds = record {
  longer = adds.longer;
  each = λ m c. elim (adds.each m c) [ inl before ↦ inl before | inr one ↦ inr ((same m).0 one) ];
  all = λ m holds. adds.all m ((same m).1 holds);
}

-- one state
pub inserts_adds : (n : ℕ) (old new : List ℕ) → Inserts old new n → Adds (λ q. n ≡ q) old new
inserts_adds n old new inserts = record {
  longer = elim inserts.1 [ inl same ↦ ([], same ∙ sym (append-nil old)) | inr more ↦ (n ∷ [], more) ];
  each = λ q c. elim inserts.1 [
    | inl same ↦ inl (subst (λ l. Contains l q) same c)
    | inr more ↦ Contains-push_cases old n q (subst (λ l. Contains l q) more c)
  ];
  all = λ q same. subst (λ m. Contains new m) same inserts.0;
}

-- one more than those of P
pub adds_one : (P R : ℕ → Type 0) (n : ℕ) (old mid new : List ℕ) → Adds P old mid → Inserts mid new n → ((m : ℕ) → P m → R m) → R n
    → ((m : ℕ) → R m → P m ⊎ (n ≡ m)) → Adds R old new
adds_one P R n old mid new before inserts left here cases =
    adds_both P (λ q. n ≡ q) R old mid new before (inserts_adds n mid new inserts) left (λ m same. subst R same here) cases

pub adds_push : (xs : List ℕ) (n : ℕ) (old mid new : List ℕ) → Adds (Contains xs) old mid → Inserts mid new n → Adds (Contains (xs ++ n ∷ [])) old new
adds_push xs n old mid new before inserts =
    adds_one (Contains xs) (Contains (xs ++ n ∷ [])) n old mid new before inserts (λ m c. Contains-append_left xs (n ∷ []) m c) (Contains-push xs n) (λ m c. Contains-push_cases xs n m c)

pub adds_two : (m n : ℕ) (old mid new : List ℕ) → Inserts old mid m → Inserts mid new n → Adds (Contains (m ∷ n ∷ [])) old new
adds_two m n old mid new first second =
    adds_push (m ∷ []) n old mid new (adds_push [] m old old mid (adds_nothing (Contains []) old (λ q none. Contains-nil q none)) first) second

-- one more of the states, where some stand before them
pub adds_more : (f : ℕ → ℕ) (xs : List ℕ) (i : ℕ) (old mid new : List ℕ) → i < length xs → Adds (Contains (map f (take i xs))) old mid → Inserts mid new (f (get_or xs i 0))
    → Adds (Contains (map f (take (i + 1) xs))) old new
adds_more f xs i old mid new below before inserts =
    subst (λ l. Adds (Contains l) old new) (sym (map_more f xs i 0 below)) (adds_push (map f (take i xs)) (f (get_or xs i 0)) old mid new before inserts)

pub adds_length : {P : ℕ → Type 0} (old new : List ℕ) → Adds P old new → length old ≤ length new
adds_length old new adds = omega (arith, ap length adds.longer.1, length-append old adds.longer.0)

pub adds_at : {P : ℕ → Type 0} (old new : List ℕ) → Adds P old new → (k : ℕ) → k < length old → get_or new k 0 ≡ get_or old k 0
adds_at old new adds k within = ap (λ l. get_or l k 0) adds.longer.1 ∙ get_or_append_left old adds.longer.0 0 k within
