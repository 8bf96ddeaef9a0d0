-- Where silent chains lead: found by walks that pass each state once.
use Rattle.std.proofs.Common.{◌≡◌, ℕ, ◌+◌, ◌<◌, ◌⊎◌, Bool, true, false, not, count_by, cond, List, [], ◌∷◌, ◌++◌, length, get_or, set, take, refl, sym, ap, ◌∙◌, subst, inl, inr, arith, add-zero}
use Rattle.std.specs.List.{All, Contains}
use Rattle.std.proofs.lemmas.Bool.{cases_eq, both_ways}
use Rattle.std.proofs.lemmas.List.{get_or_default, get_or-set_other, get_or-set_same, get_or_past, take-append-le, take_all, take_more}
use Rattle.std.proofs.lemmas.List.Elements.{All-contains, All-get_or, Contains-append_left, Contains-get_or, Contains-push, Contains-push_cases}
use Rattle.std.proofs.lemmas.List.Sums.{sum_by-set}
use Rattle.std.proofs.lemmas.Bool.{cases_lt}
use Rattle.rela_letter_nfa.specs.Chains.{ByLinks, HasChain, IsLink, IsWalked}
use Rattle.rela_letter_nfa.specs.LetterAutomaton.{LetterAutomaton, IsLetterAutomaton, silents_of, states}
use Rattle.rela_letter_nfa.specs.Sets.{HasFlag}
use Rattle.rela_letter_nfa.proofs.Members.{Contains-head, Contains-nil}

-- ---- one link

module _ (a : LetterAutomaton) where
  pub same_link : (q r s : ℕ) → IsLink a q r → IsLink a q s → r ≡ s
  same_link q r s to_r to_s = ap (λ (l : List ℕ). get_or l 0 0) (sym to_r.silent ∙ to_s.silent)

  pub silents_below : IsLetterAutomaton a → (q r : ℕ) → Contains (silents_of a q) r → r < states a
  silents_below ok q r among = elim (cases_lt q (states a)) [
    | inl below ↦ All-contains (λ n. n < states a) (silents_of a q) r (All-get_or (All (λ n. n < states a)) a.silents q [] (let each = ok.each_silents in omega arith) ok.silents) among
    | inr past ↦ absurd (Contains-nil r (subst (λ (l : List ℕ). Contains l r) (get_or_past a.silents q [] (let each = ok.each_silents in omega arith)) among))
  ]

  pub link_below : IsLetterAutomaton a → (q r : ℕ) → IsLink a q r → r < states a
  link_below ok q r link = silents_below ok q r (subst (λ (l : List ℕ). Contains l r) (sym link.silent) (Contains-head r []))

  by_push : (path : List ℕ) (p q r : ℕ) → ByLinks a p path q → IsLink a q r → ByLinks a p (path ++ r ∷ []) r
  by_push [] p q r here link = (subst (λ n. IsLink a n r) (sym here) link, refl)
  by_push (s ∷ rest) p q r leads link = (leads.0, by_push rest s q r leads.1 link)

  by_append : (path more : List ℕ) (p q r : ℕ) → ByLinks a p path q → ByLinks a q more r → ByLinks a p (path ++ more) r
  by_append [] more p q r here leads = subst (λ n. ByLinks a n more r) (sym here) leads
  by_append (s ∷ rest) more p q r first second = (first.0, by_append rest more s q r first.1 second)

  pub chains_both : (p q r : ℕ) → HasChain a p q → HasChain a q r → HasChain a p r
  chains_both p q r (path, first) (more, second) = (path ++ more, by_append path more p q r first second)

  -- where the walk goes from a state
  abbrev pub IsNext : ℕ → ℕ → Type 0
  IsNext q r = IsLink a q r ⊎ ((r ≡ q) × ((s : ℕ) → ¬ IsLink a q s))

  goes_on : (p q r : ℕ) → HasChain a p q → IsNext q r → HasChain a p r
  goes_on p q r (path, leads) next = elim next [
    | inl link ↦ (path ++ r ∷ [], by_push path p q r leads link)
    | inr stays ↦ (path, subst (λ n. ByLinks a p path n) (sym stays.0) leads)
  ]

  -- ---- a walk

  -- the walk from q has come to `end`, by the states of the path
  pub record IsWalking (q : ℕ) (old new : List Bool) (path : List ℕ) (end : ℕ) : Type 0 where
    pub state : end < states a
    pub begun : (end ≡ q) ⊎ HasFlag new q
    pub kept : (p : ℕ) → HasFlag old p → HasFlag new p
    pub only : (p : ℕ) → HasFlag new p → HasFlag old p ⊎ Contains path p
    pub fresh : (p : ℕ) → Contains path p → (p < states a) × (¬ HasFlag old p) × HasFlag new p
    pub led : (p : ℕ) → Contains path p → HasChain a p end
    pub onward : (p r : ℕ) → Contains path p → IsLink a p r → Contains path r ⊎ (r ≡ end)

  pub walking_more : (q : ℕ) (old new : List Bool) (path : List ℕ) (end next : ℕ) → length new ≡ states a → IsWalking q old new path end → get_or new end false ≡ false → next < states a → IsNext end next
      → IsWalking q old (set new end true) (path ++ end ∷ []) next
  walking_more q old new path end next count walking lacking below is_next = record {
    state = below;
    begun = inr (elim walking.begun [ inl here ↦ subst (HasFlag (set new end true)) here now_passed | inr passed ↦ still q passed ]);
    kept = λ p passed. still p (walking.kept p passed);
    only = λ p passed. elim (cases_eq p end) [
      | inl same ↦ inr (subst (Contains (path ++ end ∷ [])) (sym same) (Contains-push path end))
      | inr other ↦ elim (walking.only p (sym (get_or-set_other new end p true false other) ∙ passed)) [
        | inl before ↦ inl before
        | inr among ↦ inr (Contains-append_left path (end ∷ []) p among)
      ]
    ];
    fresh = λ p among. elim (Contains-push_cases path end p among) [
      | inl earlier ↦ let was = walking.fresh p earlier in (was.0, was.1, still p was.2)
      | inr here ↦
          subst (λ n. (n < states a) × (¬ HasFlag old n) × HasFlag (set new end true) n) here
          (walking.state, (λ passed. both_ways (get_or new end false) lacking (walking.kept end passed)), now_passed)
    ];
    led = λ p among. elim (Contains-push_cases path end p among) [
      | inl earlier ↦ goes_on p end next (walking.led p earlier) is_next
      | inr here ↦ subst (λ n. HasChain a n next) here (goes_on end end next ([], refl) is_next)
    ];
    onward = λ p r among link. elim (Contains-push_cases path end p among) [
      | inl earlier ↦ elim (walking.onward p r earlier link) [
        | inl inside ↦ inl (Contains-append_left path (end ∷ []) r inside)
        | inr last ↦ inl (subst (Contains (path ++ end ∷ [])) (sym last) (Contains-push path end))
      ]
      | inr here ↦ elim is_next [
        | inl on ↦ inr (sym (same_link end next r on (subst (λ n. IsLink a n r) (sym here) link)))
        | inr stays ↦ absurd (stays.1 r (subst (λ n. IsLink a n r) (sym here) link))
      ]
    ];
  }
    where
      within : end < length new
      within = omega (arith, walking.state, count)

      now_passed : HasFlag (set new end true) end
      now_passed = get_or-set_same new end true false within

      still : (p : ℕ) → HasFlag new p → HasFlag (set new end true) p
      still p passed = elim (cases_eq p end) [
        | inl same ↦ subst (HasFlag (set new end true)) (sym same) now_passed
        | inr other ↦ get_or-set_other new end p true false other ∙ passed
      ]

  pub walked : (q : ℕ) (old new : List Bool) (path : List ℕ) (end : ℕ) → IsWalking q old new path end → HasFlag new end → IsWalked a old new path end
  walked q old new path end walking passed = record {
    state = walking.state;
    passed = passed;
    kept = walking.kept;
    only = walking.only;
    fresh = walking.fresh;
    led = walking.led;
    onward = walking.onward;
  }

-- one flag less is to be set
pub one_less : (flags : List Bool) (n : ℕ) → n < length flags → get_or flags n false ≡ false → count_by not (set flags n true) < count_by not flags
one_less flags n within lacking =
    let less : count_by not (set flags n true) + 1 ≡ count_by not flags = rw lacking at (sum_by-set (λ b. cond (not b) 1 0) flags n true false within) ∙ add-zero (count_by not flags) in
    omega arith

-- ---- the ends of a path that are written

abbrev pub IsSettled : List ℕ → List ℕ → List ℕ → ℕ → Type 0
IsSettled old new path end = ((p : ℕ) → Contains path p → get_or new p 0 ≡ end) × ((p : ℕ) → Contains path p ⊎ (get_or new p 0 ≡ get_or old p 0))

pub settled_more : (old ends path : List ℕ) (i end : ℕ) → i < length path → get_or path i 0 < length ends → IsSettled old ends (take i path) end → IsSettled old (set ends (get_or path i 0) end) (take (i + 1) path) end
settled_more old ends path i end below within so_far = (
  λ p among. elim (Contains-push_cases (take i path) x p (subst (λ (l : List ℕ). Contains l p) more among)) [
    | inl earlier ↦ elim (cases_eq p x) [
      | inl same ↦ here p same
      | inr other ↦ get_or-set_other ends x p end 0 other ∙ so_far.0 p earlier
    ]
    | inr same ↦ here p (sym same)
  ],
  λ p. elim (so_far.1 p) [
    | inl earlier ↦ inl (subst (λ (l : List ℕ). Contains l p) (sym more) (Contains-append_left (take i path) (x ∷ []) p earlier))
    | inr kept ↦ elim (cases_eq p x) [
      | inl same ↦ inl (subst (λ (l : List ℕ). Contains l p) (sym more) (subst (Contains (take i path ++ x ∷ [])) (sym same) (Contains-push (take i path) x)))
      | inr other ↦ inr (get_or-set_other ends x p end 0 other ∙ kept)
    ]
  ],
)
  where
    x : ℕ
    x = get_or path i 0

    more : take (i + 1) path ≡ take i path ++ x ∷ []
    more = take_more path i 0 below

    here : (p : ℕ) → p ≡ x → get_or (set ends x end) p 0 ≡ end
    here p same = ap (λ n. get_or (set ends x end) n 0) same ∙ get_or-set_same ends x end 0 within

-- ---- all ends

-- the ends of the states of which the flag is set are settled
pub record AreEndsSoFar (a : LetterAutomaton) (flags : List Bool) (ends : List ℕ) : Type 0 where
  pub count : length ends ≡ states a
  pub led : (p : ℕ) → p < states a → HasChain a p (get_or ends p 0)
  pub closed : (p r : ℕ) → HasFlag flags p → IsLink a p r → HasFlag flags r
  pub same : (p r : ℕ) → HasFlag flags p → IsLink a p r → get_or ends p 0 ≡ get_or ends r 0

module _ (a : LetterAutomaton) where
  pub ends_more : (old new : List Bool) (ends after path : List ℕ) (at : ℕ) → AreEndsSoFar a old ends → IsWalked a old new path at → length after ≡ length ends → IsSettled ends after path (get_or ends at 0)
      → AreEndsSoFar a new after
  ends_more old new ends after path at are walk count settled = record {
    count = count ∙ are.count;
    led = λ p below. elim (settled.1 p) [
      | inl among ↦ subst (HasChain a p) (sym (settled.0 p among)) (chains_both a p at end (walk.led p among) (are.led at walk.state))
      | inr kept ↦ subst (HasChain a p) (sym kept) (are.led p below)
    ];
    closed = λ p r passed link. elim (walk.only p passed) [
      | inl before ↦ walk.kept r (are.closed p r before link)
      | inr among ↦ elim (walk.onward p r among link) [
        | inl inside ↦ (walk.fresh r inside).2
        | inr last ↦ subst (HasFlag new) (sym last) walk.passed
      ]
    ];
    same = λ p r passed link. elim (walk.only p passed) [
      | inl before ↦ unchanged p before ∙ are.same p r before link ∙ sym (unchanged r (are.closed p r before link))
      | inr among ↦ elim (walk.onward p r among link) [
        | inl inside ↦ settled.0 p among ∙ sym (settled.0 r inside)
        | inr last ↦ settled.0 p among ∙ sym (ap (λ n. get_or after n 0) last ∙ last_end)
      ]
    ];
  }
    where
      end : ℕ
      end = get_or ends at 0

      unchanged : (p : ℕ) → HasFlag old p → get_or after p 0 ≡ get_or ends p 0
      unchanged p before = elim (settled.1 p) [
        | inl among ↦ absurd ((walk.fresh p among).1 before)
        | inr kept ↦ kept
      ]

      last_end : get_or after at 0 ≡ end
      last_end = elim (settled.1 at) [ inl among ↦ settled.0 at among | inr kept ↦ kept ]

-- the states of the path of a walk
pub path_below : (a : LetterAutomaton) (old new : List Bool) (path : List ℕ) (end n : ℕ) → IsWalked a old new path end → n ≡ states a → All (λ p. p < n) path
path_below a old new path end n walk is k d below =
    subst (λ m. get_or path k d < m) (sym is) (walk.fresh (get_or path k d) (Contains-get_or path k d below)).0

module _ (a : LetterAutomaton) (ok : IsLetterAutomaton a) where
  pub chain_below : (path : List ℕ) (p q : ℕ) → p < states a → ByLinks a p path q → q < states a
  chain_below [] p q below here = subst (λ n. n < states a) here below
  chain_below (r ∷ rest) p q below leads = chain_below rest r q (link_below a ok p r leads.0) leads.1

  pub ends_below : (ends : List ℕ) → length ends ≡ states a → ((q : ℕ) → q < states a → HasChain a q (get_or ends q 0)) → All (λ end. end < states a) ends
  ends_below ends count led k d below =
      let within : k < states a = omega (arith, below, count) in
      let there = led k within in
      subst (λ n. n < states a) (get_or_default ends k 0 d below) (chain_below there.0 k (get_or ends k 0) within there.1)

-- of so many with others behind them, as many as there are
pub whole_taken : {X : Type 0} (n : ℕ) (xs ys : List X) → length xs ≡ n → take n (xs ++ ys) ≡ xs
whole_taken n xs ys each = take-append-le n xs ys (omega arith) ∙ take_all n xs (omega arith)
