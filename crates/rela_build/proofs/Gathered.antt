-- Sets of the blocks in which some symbols lie.
use Rattle.std.proofs.Common.{◌≡◌, ◌≢◌, ℕ, ◌+◌, ◌<◌, ◌≤◌, ◌⊎◌, ◌↔◌, Bool, true, false, List, [], ◌∷◌, ◌++◌, length, get_or, take, inl, inr, sym, ap, ◌∙◌, subst, arith}
use Rattle.std.specs.Prelude.{Contains}
use Rattle.std.proofs.lemmas.Bool.{cases_lt, cases_eq}
use Rattle.std.proofs.lemmas.List.{take_more, take_all}
use Rattle.std.proofs.lemmas.List.Elements.{Contains-append_left, Contains-push, Contains-push_cases}
use Rattle.rela_labels.specs.Letters.{has}
use Rattle.rela_labels.specs.Partition.{block_of}

-- the letters are the blocks of the symbols with P
abbrev pub AreBlocksOf : List ℕ → (ℕ → Type 0) → List Bool → Type 0
AreBlocksOf blocks P set = (k : ℕ) → (has set k ≡ true) ↔ ((s : ℕ) × P s × (block_of blocks s ≡ k))

pub none_gathered : (blocks : List ℕ) (P : ℕ → Type 0) (set : List Bool) → ((s : ℕ) → ¬ P s) → ((k : ℕ) → has set k ≡ false) → AreBlocksOf blocks P set
none_gathered blocks P set no_symbol empty k = (λ among. let no = empty k in absurd cc, λ (s, is, block). absurd (no_symbol s is))

pub one_more : (blocks : List ℕ) (old new : List Bool) (P P' : ℕ → Type 0) (i b : ℕ) → b ≡ block_of blocks i
    → ((s : ℕ) → P' s → P s ⊎ (s ≡ i)) → ((s : ℕ) → P s → P' s) → P' i → AreBlocksOf blocks P old
    → has new b ≡ true → ((k : ℕ) → k ≢ b → has new k ≡ has old k) → AreBlocksOf blocks P' new
one_more blocks old new P P' i b is back on here before added others k =
    elim (cases_eq k b) [
      | inl same ↦ (λ among. (i, here, sym is ∙ sym same), λ found. ap (has new) same ∙ added)
      | inr other ↦ (
        λ among. let found = (before k).0 (sym (others k other) ∙ among) in (found.0, on found.0 found.1, found.2),
        λ (s, has_p, block).
            elim (back s has_p) [
              | inl old_p ↦ others k other ∙ (before k).1 (s, old_p, block)
              | inr last ↦ absurd (other (sym block ∙ ap (block_of blocks) last ∙ sym is))
            ],
      )
    ]

pub below_none : (blocks : List ℕ) (set : List Bool) → ((k : ℕ) → has set k ≡ false) → AreBlocksOf blocks (λ s. s < 0) set
below_none blocks set empty = none_gathered blocks (λ s. s < 0) set (λ s below. omega arith) empty

pub below_more : (blocks : List ℕ) (old new : List Bool) (i b : ℕ) → b ≡ block_of blocks i → AreBlocksOf blocks (λ s. s < i) old
    → has new b ≡ true → ((k : ℕ) → k ≢ b → has new k ≡ has old k) → AreBlocksOf blocks (λ s. s < i + 1) new
below_more blocks old new i b is =
    one_more blocks old new (λ s. s < i) (λ s. s < i + 1) i b is
    (λ s below. elim (cases_lt s i) [ inl less ↦ inl less | inr last ↦ inr (omega arith) ]) (λ s below. omega arith) (omega arith)

pub listed_none : (blocks symbols : List ℕ) (set : List Bool) → ((k : ℕ) → has set k ≡ false) → AreBlocksOf blocks (Contains (take 0 symbols)) set
listed_none blocks symbols set empty = none_gathered blocks (Contains []) set (λ s (k, below, at). omega (arith, below)) empty

pub listed_more : (blocks symbols : List ℕ) (old new : List Bool) (i s b : ℕ) → i < length symbols → s ≡ get_or symbols i 0 → b ≡ block_of blocks s
    → AreBlocksOf blocks (Contains (take i symbols)) old → has new b ≡ true → ((k : ℕ) → k ≢ b → has new k ≡ has old k)
    → AreBlocksOf blocks (Contains (take (i + 1) symbols)) new
listed_more blocks symbols old new i s b within is block before added others =
    let more : take (i + 1) symbols ≡ take i symbols ++ s ∷ [] = take_more symbols i 0 within ∙ ap (λ (x : ℕ). take i symbols ++ x ∷ []) (sym is) in
    subst (λ (l : List ℕ). AreBlocksOf blocks (Contains l) new) (sym more)
    (one_more blocks old new (Contains (take i symbols)) (Contains (take i symbols ++ s ∷ [])) s b block
    (λ t has_t. elim (Contains-push_cases (take i symbols) s t has_t) [ inl before_t ↦ inl before_t | inr last ↦ inr (sym last) ])
    (λ t has_t. Contains-append_left (take i symbols) (s ∷ []) t has_t)
    (Contains-push (take i symbols) s) before added others)

pub listed_all : (blocks symbols : List ℕ) (set : List Bool) (i : ℕ) → length symbols ≤ i → AreBlocksOf blocks (Contains (take i symbols)) set
    → AreBlocksOf blocks (Contains symbols) set
listed_all blocks symbols set i all are = subst (λ (l : List ℕ). AreBlocksOf blocks (Contains l) set) (take_all i symbols all) are
