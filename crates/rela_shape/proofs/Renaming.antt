-- Symbols that are renamed one to one, so that what is read of each stays the same.
use Rattle.std.proofs.Common.{◌≡◌, ◌≢◌, ◌∙◌, ℕ, suc, ◌<◌, List, [], ◌∷◌, length, get_or, map, refl, sym, ap, inl, inr, arith}
use Rattle.std.specs.Prelude.{◌==◌, if◌then◌else◌, ◌↔◌}
use Rattle.std.specs.List.{All}
use Rattle.std.proofs.lemmas.Bool.{eq-eqb, ne_eqb, cases_eq}
use Rattle.std.proofs.lemmas.List.{length-map}

-- a and b exchanged
abbrev swap : ℕ → ℕ → ℕ → ℕ
swap a b x = if x == a then b else (if x == b then a else x)

swap_first : (a b : ℕ) → swap a b a ≡ b
swap_first a b = let t = eq-eqb a a refl in rw t

swap_second : (a b x : ℕ) → x ≡ b → swap a b x ≡ a
swap_second a b x e = elim (cases_eq x a) [
  | inl same ↦ let t = eq-eqb x a same in rw t (sym e ∙ same)
  | inr apart ↦ let t = ne_eqb x a apart in let u = eq-eqb x b e in rw (t, u)
]

swap_other : (a b x : ℕ) → x ≢ a → x ≢ b → swap a b x ≡ x
swap_other a b x not_a not_b = let t = ne_eqb x a not_a in let u = ne_eqb x b not_b in rw (t, u)

swap_back : (a b x : ℕ) → swap a b (swap a b x) ≡ x
swap_back a b x = elim (cases_eq x a) [
  | inl same ↦ ap (swap a b) (ap (swap a b) same ∙ swap_first a b) ∙ swap_second a b b refl ∙ sym same
  | inr not_a ↦ elim (cases_eq x b) [
    | inl same ↦ ap (swap a b) (swap_second a b x same) ∙ swap_first a b ∙ sym same
    | inr not_b ↦ ap (swap a b) (swap_other a b x not_a not_b) ∙ swap_other a b x not_a not_b
  ]
]

swap_keeps : (read : ℕ → ℕ) (a b : ℕ) → read a ≡ read b → (x : ℕ) → read (swap a b x) ≡ read x
swap_keeps read a b alike x = elim (cases_eq x a) [
  | inl same ↦ ap read (ap (swap a b) same ∙ swap_first a b) ∙ sym alike ∙ ap read (sym same)
  | inr not_a ↦ elim (cases_eq x b) [
    | inl same ↦ ap read (swap_second a b x same) ∙ alike ∙ ap read (sym same)
    | inr not_b ↦ ap read (swap_other a b x not_a not_b)
  ]
]

-- symbols are renamed one to one, what is read of each stays the same, and the first list becomes the second
pub record Renaming (read : ℕ → ℕ) (old new : List ℕ) : Type 0 where
  pub to : ℕ → ℕ
  pub from : ℕ → ℕ
  pub back : (s : ℕ) → from (to s) ≡ s
  pub forth : (s : ℕ) → to (from s) ≡ s
  pub keeps : (s : ℕ) → read (to s) ≡ read s
  pub sends : map to old ≡ new

-- a word that is renamed there and back is the same
pub there_and_back : (f g : ℕ → ℕ) → ((s : ℕ) → f (g s) ≡ s) → (xs : List ℕ) → map f (map g xs) ≡ xs
there_and_back f g back [] = refl
there_and_back f g back (x ∷ xs) = λ i. back x i ∷ there_and_back f g back xs i

-- the same the other way round
abbrev pub mirrored : (read : ℕ → ℕ) (old new : List ℕ) → Renaming read old new → Renaming read new old
mirrored read old new r = record {
  to = r.from;
  from = r.to;
  back = r.forth;
  forth = r.back;
  keeps = λ s. sym (r.keeps (r.from s)) ∙ ap read (r.forth s);
  sends = ap (map r.from) (sym r.sends) ∙ there_and_back r.from r.to r.back old;
}

-- what is renamed alike is the same
pub one_to_one : (read : ℕ → ℕ) (old new : List ℕ) (r : Renaming read old new) (s t : ℕ) → r.to s ≡ r.to t → s ≡ t
one_to_one read old new r s t e = sym (r.back s) ∙ ap r.from e ∙ r.back t

-- A renaming that sends one more symbol, x to y: what was sent to y changes places with what x was sent to.
module _ (read : ℕ → ℕ) (old new : List ℕ) (r : Renaming read old new) (x y : ℕ) where
  abbrev further : ℕ → ℕ
  further s = swap y (r.to x) (r.to s)

  one_kept : (s t : ℕ) → r.to s ≡ t → ((x ≡ s) ↔ (y ≡ t)) → further s ≡ t
  one_kept s t is same = elim (cases_eq y t) [
    | inl here ↦ swap_second y (r.to x) (r.to s) (ap r.to (sym (same.1 here))) ∙ here
    | inr apart ↦ swap_other y (r.to x) (r.to s) (λ e. apart (sym e ∙ is)) (λ e. apart (same.0 (one_to_one read old new r x s (sym e)))) ∙ is
  ]

  each_kept : (xs ys : List ℕ) → map r.to xs ≡ ys → ((j : ℕ) → j < length xs → (x ≡ get_or xs j 0) ↔ (y ≡ get_or ys j 0)) → map further xs ≡ ys
  each_kept [] ys sends together = sends
  each_kept (s ∷ xs) [] sends together = absurd (omega (arith, ap length sends))
  each_kept (s ∷ xs) (t ∷ ys) sends together =
      let head : r.to s ≡ t = cc in
      let tail : map r.to xs ≡ ys = cc in
      let first : further s ≡ t = one_kept s t head (together 0 (omega arith)) in
      let rest : map further xs ≡ ys = each_kept xs ys tail (λ j within. together (suc j) (omega (arith, within))) in
      (λ i. first i ∷ rest i)

  pub one_more : read x ≡ read y → ((j : ℕ) → j < length old → (x ≡ get_or old j 0) ↔ (y ≡ get_or new j 0)) → Renaming read (x ∷ old) (y ∷ new)
  one_more alike together = record {
    to = further;
    from = λ s. r.from (swap y (r.to x) s);
    back = λ s. ap r.from (swap_back y (r.to x) (r.to s)) ∙ r.back s;
    forth = λ s. ap (swap y (r.to x)) (r.forth (swap y (r.to x) s)) ∙ swap_back y (r.to x) s;
    keeps = λ s. swap_keeps read y (r.to x) (sym alike ∙ sym (r.keeps x)) (r.to s) ∙ r.keeps s;
    sends = λ i. swap_second y (r.to x) (r.to x) refl i ∷ each_kept old new r.sends together i;
  }

-- lists whose symbols are the same at the same places, and are read alike, are renamed
pub renames : (read : ℕ → ℕ) (old new : List ℕ) → map read old ≡ map read new
    → ((i j : ℕ) → i < length old → j < length old → (get_or old i 0 ≡ get_or old j 0) ↔ (get_or new i 0 ≡ get_or new j 0))
    → Renaming read old new
renames read [] [] alike together = record { to = λ s. s; from = λ s. s; back = λ s. refl; forth = λ s. refl; keeps = λ s. refl; sends = refl }
renames read [] (y ∷ new) alike together = absurd (omega (arith, ap length alike))
renames read (x ∷ old) [] alike together = absurd (omega (arith, ap length alike))
renames read (x ∷ old) (y ∷ new) alike together =
    let head : read x ≡ read y = cc in
    let tail : map read old ≡ map read new = cc in
    let rest : Renaming read old new = renames read old new tail (λ i j i_in j_in. together (suc i) (suc j) (omega (arith, i_in)) (omega (arith, j_in))) in
    one_more read old new rest x y head (λ j within. together 0 (suc j) (omega arith) (omega (arith, within)))

-- a symbol that neither list has stays as it is
pub one_stays : (read : ℕ → ℕ) (old new : List ℕ) → Renaming read old new → (s : ℕ) → All (λ t. t ≢ s) old → All (λ t. t ≢ s) new
    → Renaming read (s ∷ old) (s ∷ new)
one_stays read old new r s apart other_apart =
    let long : length new ≡ length old = ap length (sym r.sends) ∙ length-map old r.to in
    one_more read old new r s s refl (λ j within. (
      λ e. absurd (apart j 0 within (sym e)),
      λ e. absurd (other_apart j 0 (omega (arith, long, within)) (sym e)),
    ))
