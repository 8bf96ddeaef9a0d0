-- A walk along the symbols of a block to the first that is not apart, and the links that it takes.
use Rattle.std.proofs.Common.{◌≡◌, ℕ, ◌+◌, ◌-◌, ◌<◌, ◌≤◌, ◌++◌, List, [], ◌∷◌, length, get_or, set, Option, None, Some, MatchOption, is_some, true, inl, inr, arith, sym, ap, subst, ◌∙◌}
use Rattle.std.proofs.lemmas.Bool.{cases_order, cases_lt, cases_eq, false≢true}
use Rattle.std.proofs.lemmas.List.{get_or-set_other, get_or-set_same, length-set, get_or_default, get_or_append_left, get_or_push}
use Rattle.std.specs.List.{Contains}
use Rattle.rela_labels.specs.Apart.{IsNext, IsLinked, IsReached, IsLeastLeft, IsLead}
use Rattle.rela_labels.specs.Partition.{IsLeastOf, block_of}
use Rattle.rela_labels.proofs.AscendingLists.{contained}

-- the walk begins at the block's least symbol
pub first_reached : (blocks apart : List ℕ) (block s : ℕ) → IsLeastOf blocks block s → IsReached blocks apart block (Some s)
first_reached blocks apart block s is = (is.within, is.member, λ t before same. absurd (is.least t before same))

-- a step past a symbol that is apart
pub next_reached : (blocks apart : List ℕ) (block s : ℕ) (next : Option ℕ) → IsReached blocks apart block (Some s) → Contains apart s
    → IsNext blocks s next → IsReached blocks apart block next
next_reached blocks apart block s None (s_in, member, before) there no_more = λ t t_in same.
    elim (cases_order t s) [
      | inl equal ↦ subst (Contains apart) (sym equal) there
      | inr other ↦ elim other [
        | inl less ↦ before t less same
        | inr more ↦ absurd (no_more t more t_in (same ∙ sym member))
      ]
    ]
next_reached blocks apart block s (Some n) (s_in, member, before) there (further, n_in, n_member, between) = (
  n_in,
  n_member ∙ member,
  λ t t_before same.
      elim (cases_order t s) [
        | inl equal ↦ subst (Contains apart) (sym equal) there
        | inr other ↦ elim other [
          | inl less ↦ before t less same
          | inr more ↦ absurd (between t more t_before (same ∙ sym member))
        ]
      ],
)

pub step_reached : (blocks apart : List ℕ) (next : List (Option ℕ)) (block s : ℕ) (reached read place : Option ℕ) → IsLinked blocks next
    → reached ≡ Some s → IsReached blocks apart block reached → is_some place ≡ true
    → MatchOption place (Contains apart s → ⊥) (λ i. (i < length apart) × (get_or apart i 0 ≡ s)) → read ≡ get_or next s read
    → IsReached blocks apart block read
step_reached blocks apart next block s reached read None linked at is found place_is read_is = absurd (false≢true found)
step_reached blocks apart next block s reached read (Some i) linked at is found place_is read_is =
    let here : IsReached blocks apart block (Some s) = subst (IsReached blocks apart block) at is in
    let len = linked.len in
    let s_in = here.0 in
    let next_is : get_or next s None ≡ read = get_or_default next s None read (omega arith) ∙ sym read_is in
    next_reached blocks apart block s read here (contained apart s i (record { within = place_is.0; at = place_is.1 }))
    (subst (IsNext blocks s) next_is (linked.each s here.0))

-- what is left to walk
abbrev pub left_to_walk : ℕ → Option ℕ → ℕ
left_to_walk n None = 0
left_to_walk n (Some s) = n - s

pub walks_on : (blocks : List ℕ) (s : ℕ) (next : Option ℕ) → s < length blocks → IsNext blocks s next
    → left_to_walk (length blocks) next < length blocks - s
walks_on blocks s None s_in is = omega arith
walks_on blocks s (Some n) s_in (further, n_in, member, between) = omega arith

-- the block's leader
pub lead_found : (blocks apart : List ℕ) (block s : ℕ) → IsLeastLeft blocks apart block (Some s) → IsLead blocks apart block s
lead_found blocks apart block s is =
    let reached = is.reached in
    record {
      within = reached.0;
      member = reached.1;
      least = λ t t_in same absent. (
        is.left,
        elim (cases_lt t s) [
          | inl before ↦ absurd (absent (reached.2 t before same))
          | inr after ↦ after
        ],
      );
    }

pub lead_apart : (blocks apart : List ℕ) (block s : ℕ) → IsLeastLeft blocks apart block None → IsLeastOf blocks block s → IsLead blocks apart block s
lead_apart blocks apart block s is least = record {
  within = least.within;
  member = least.member;
  least = λ t t_in same absent. absurd (absent (is.reached t t_in same));
}

-- the least symbol of the block that is not below i
abbrev IsAfter : List ℕ → ℕ → ℕ → Option ℕ → Type 0
IsAfter blocks block i None = (t : ℕ) → i ≤ t → t < length blocks → block_of blocks t ≡ block → ⊥
IsAfter blocks block i (Some t) = (i ≤ t) × (t < length blocks) × (block_of blocks t ≡ block) × ((r : ℕ) → i ≤ r → r < t → block_of blocks r ≡ block → ⊥)

next_from_after : (blocks : List ℕ) (s : ℕ) (o : Option ℕ) → IsAfter blocks (block_of blocks s) (s + 1) o → IsNext blocks s o
next_from_after blocks s None is = λ t after t_in same. is t (omega arith) t_in same
next_from_after blocks s (Some t) (after, t_in, member, between) =
    (omega arith, t_in, member, λ r r_after before same. between r (omega arith) before same)

after_other : (blocks : List ℕ) (block s : ℕ) (o : Option ℕ) → (block_of blocks s ≡ block → ⊥) → IsAfter blocks block (s + 1) o → IsAfter blocks block s o
after_other blocks block s None differ is = λ t after t_in same.
    elim (cases_eq t s) [
      | inl equal ↦ differ (subst (λ r. block_of blocks r ≡ block) equal same)
      | inr apart ↦ is t (omega arith) t_in same
    ]
after_other blocks block s (Some t) differ (after, t_in, member, between) = (
  omega arith,
  t_in,
  member,
  λ r r_after before same.
      elim (cases_eq r s) [
        | inl equal ↦ differ (subst (λ r. block_of blocks r ≡ block) equal same)
        | inr apart ↦ between r (omega arith) before same
      ],
)

-- the links of the symbols from i on are made
pub record IsLinkedFrom (blocks : List ℕ) (next after : List (Option ℕ)) (count i : ℕ) : Type 0 where
  pub next_len : length next ≡ length blocks
  pub after_len : length after ≡ count
  pub linked : (s : ℕ) → i ≤ s → s < length blocks → IsNext blocks s (get_or next s None)
  pub known : (b : ℕ) → b < count → IsAfter blocks b i (get_or after b None)

pub none_linked : (blocks : List ℕ) (next after : List (Option ℕ)) (count i : ℕ) → length next ≡ length blocks → length after ≡ count → length blocks ≤ i
    → ((b : ℕ) → get_or after b None ≡ None) → IsLinkedFrom blocks next after count i
none_linked blocks next after count i next_len after_len all none = record {
  next_len = next_len;
  after_len = after_len;
  linked = λ s from s_in. absurd (omega arith);
  known = λ b b_in. subst (IsAfter blocks b i) (sym (none b)) (λ t from t_in same. omega arith);
}

pub one_more_linked : (blocks : List ℕ) (next after : List (Option ℕ)) (count i s block : ℕ) (read : Option ℕ) → i ≡ s + 1 → s < length blocks
    → block ≡ get_or blocks s 0 → block < count → read ≡ get_or after block None
    → IsLinkedFrom blocks next after count i → IsLinkedFrom blocks (set next s read) (set after block (Some s)) count s
one_more_linked blocks next after count i s block read i_is s_in block_is block_in read_is is =
    let next_len = is.next_len in
    let after_len = is.after_len in
    let known : IsAfter blocks block (s + 1) (get_or after block None) = subst (λ i. IsAfter blocks block i (get_or after block None)) i_is (is.known block block_in) in
    record {
      next_len = length-set next s read ∙ is.next_len;
      after_len = length-set after block (Some s) ∙ is.after_len;
      linked = λ t from t_in. elim (cases_eq t s) [
        | inl equal ↦
            subst (λ t. IsNext blocks t (get_or (set next s read) t None)) (sym equal)
            (rw (get_or-set_same next s read None (omega arith))
            (subst (IsNext blocks s) (sym read_is) (next_from_after blocks s (get_or after block None) (subst (λ b. IsAfter blocks b (s + 1) (get_or after block None)) block_is known))))
        | inr apart ↦ rw (get_or-set_other next s t read None apart) (is.linked t (omega arith) t_in)
      ];
      known = λ b b_in. elim (cases_eq b block) [
        | inl equal ↦
            subst (λ b. IsAfter blocks b s (get_or (set after block (Some s)) b None)) (sym equal)
            (rw (get_or-set_same after block (Some s) None (omega arith)) (omega arith, s_in, sym block_is, λ r from before same. omega arith))
        | inr apart ↦
            rw (get_or-set_other after block b (Some s) None apart)
            (after_other blocks b s (get_or after b None) (λ e. apart (sym e ∙ sym block_is)) (subst (λ i. IsAfter blocks b i (get_or after b None)) i_is (is.known b b_in)))
      ];
    }

pub all_linked : (blocks : List ℕ) (next after : List (Option ℕ)) (count i : ℕ) → i ≤ 0 → IsLinkedFrom blocks next after count i → IsLinked blocks next
all_linked blocks next after count i none is = record { len = is.next_len; each = λ s s_in. is.linked s (omega arith) s_in }

-- one more element that is as its index wants
pub each_pushed : (P : ℕ → ℕ → Type 0) (xs : List ℕ) (x n : ℕ) (ys : List ℕ) → ys ≡ xs ++ x ∷ [] → length xs ≡ n
    → ((k : ℕ) → k < n → P k (get_or xs k 0)) → P n x → (k : ℕ) → k < n + 1 → P k (get_or ys k 0)
each_pushed P xs x n ys ys_is len each last k within =
    elim (cases_lt k n) [
      | inl before ↦
          subst (P k) (sym (ap (λ zs. get_or zs k 0) ys_is ∙ get_or_append_left xs (x ∷ []) 0 k (omega arith))) (each k before)
      | inr after ↦
          let k_is : k ≡ n = omega arith in
          subst (P k) (sym (ap (λ zs. get_or zs k 0) ys_is ∙ get_or_push xs x 0 k (omega arith))) (subst (λ m. P m x) (sym k_is) last)
    ]
