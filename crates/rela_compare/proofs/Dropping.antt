-- Words of which each two are apart, less one, so that the empty word isn't among them.
use Rattle.std.proofs.Common.{◌≡◌, ℕ, suc, ◌+◌, ◌-◌, List, [], ◌∷◌, length, subst, arith}
use Rattle.std.specs.List.{All, AllPairs}
use Rattle.std.proofs.lemmas.List.Elements.{All-cons, All-from_get_or, All-head, All-nil, All-tail, All-weaker}
use Rattle.std.proofs.lemmas.List.Kept.{AllPairs-cons}

pub record LessOne (R : List ℕ → List ℕ → Type 0) (Q : List ℕ → Type 0) (n : ℕ) : Type 0 where
  pub words : List (List ℕ)
  pub count : length words ≡ n
  pub each : All Q words
  pub some : All (λ w. ¬ (w ≡ [])) words
  pub apart : AllPairs R words

pairs_head : (R : List ℕ → List ℕ → Type 0) (w : List ℕ) (ws : List (List ℕ)) → AllPairs R (w ∷ ws) → All (R w) ws
pairs_head R w ws pairs = All-from_get_or (R w) ws [] (λ i below. pairs 0 (suc i) [] (omega arith) (omega (arith, below)))

pairs_tail : (R : List ℕ → List ℕ → Type 0) (w : List ℕ) (ws : List (List ℕ)) → AllPairs R (w ∷ ws) → AllPairs R ws
pairs_tail R w ws pairs = λ i j d before within. pairs (suc i) (suc j) d (omega (arith, before)) (omega (arith, within))

pub less_one : (R : List ℕ → List ℕ → Type 0) (Q : List ℕ → Type 0) → ¬ R [] [] → (words : List (List ℕ)) (n : ℕ) → length words ≡ n + 1 → All Q words → AllPairs R words → LessOne R Q n
less_one R Q not_itself [] n count each apart = absurd (omega arith)
less_one R Q not_itself ([] ∷ ws) n count each apart = record {
  words = ws;
  count = omega arith;
  each = All-tail Q [] ws each;
  some = All-weaker (R []) (λ w. ¬ (w ≡ [])) (λ w told none. not_itself (subst (R []) none told)) ws (pairs_head R [] ws apart);
  apart = pairs_tail R [] ws apart;
}
less_one R Q not_itself ((k ∷ w) ∷ []) n count each apart = record {
  words = [];
  count = omega arith;
  each = All-nil Q;
  some = All-nil (λ w. ¬ (w ≡ []));
  apart = λ i j d before within. absurd (omega (arith, within));
}
less_one R Q not_itself ((k ∷ w) ∷ v ∷ ws) n count each apart =
    let first : List ℕ = k ∷ w in
    let both : List ℕ → Type 0 = λ x. Q x × R first x in
    let rest = less_one R both not_itself (v ∷ ws) (n - 1) (omega arith)
    (All-from_get_or both (v ∷ ws) [] (λ i below. (All-tail Q first (v ∷ ws) each i [] below, pairs_head R first (v ∷ ws) apart i [] below))) (pairs_tail R first (v ∷ ws) apart) in
    let counted = rest.count in
    record {
      words = first ∷ rest.words;
      count = omega arith;
      each = All-cons Q first rest.words (All-head Q first (v ∷ ws) each) (All-weaker both Q (λ x is. is.0) rest.words rest.each);
      some = All-cons (λ x. ¬ (x ≡ [])) first rest.words (λ none. cc) rest.some;
      apart = AllPairs-cons R first rest.words (All-weaker both (R first) (λ x is. is.1) rest.words rest.each) rest.apart;
    }
