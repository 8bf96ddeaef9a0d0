-- A loop that numbers keys in the order in which they first come, step by step.
use Rattle.std.proofs.Common.{◌≡◌, ◌≢◌, ℕ, ◌+◌, ◌^◌, ◌<◌, ◌≤◌, ◌↔◌, List, [], ◌∷◌, ◌++◌, length, get_or, set, take, Option, None, Some, inl, inr, arith, refl, sym, ap, subst, ◌∙◌}
use Rattle.std.proofs.lemmas.Bool.{cases_lt, cases_eq}
use Rattle.std.proofs.lemmas.List.{get_or_append_left, get_or_push, length_push, take_more, get_or_default, get_or-set_other, get_or-set_same, take_all}
use Rattle.std.proofs.lemmas.Option.{same_Some}
use Rattle.rela_labels.specs.Numbering.{IsNumbering}
use Rattle.rela_labels.specs.Partition.{IsLeastOf, IsNumbered, Together}

-- ys is xs and x behind it
record IsPushed (xs : List ℕ) (x : ℕ) (ys : List ℕ) : Type 0 where
  len : length ys ≡ length xs + 1
  before : (i : ℕ) → i < length xs → get_or ys i 0 ≡ get_or xs i 0
  last : (i : ℕ) → i ≡ length xs → get_or ys i 0 ≡ x

pushed : (xs : List ℕ) (x : ℕ) → IsPushed xs x (xs ++ x ∷ [])
pushed xs x = record {
  len = length_push xs x;
  before = λ i within. get_or_append_left xs (x ∷ []) 0 i within;
  last = λ i e. get_or_push xs x 0 i (sym e);
}

least_of_more : (xs : List ℕ) (x : ℕ) (ys : List ℕ) (block s : ℕ) → IsPushed xs x ys → IsLeastOf xs block s → IsLeastOf ys block s
least_of_more xs x ys block s more is =
    let within = is.within in
    let len = more.len in
    record {
      within = omega arith;
      member = more.before s is.within ∙ is.member;
      least = λ r below same. is.least r below (sym (more.before r (omega arith)) ∙ same);
    }

abbrev Earlier : List ℕ → ℕ → ℕ → Type 0
Earlier blocks s block = (r : ℕ) × (r < s) × (get_or blocks r 0 ≡ block)

earlier_of_more : (xs : List ℕ) (x : ℕ) (ys : List ℕ) (s block : ℕ) → IsPushed xs x ys → s ≤ length xs → Earlier xs s block → Earlier ys s block
earlier_of_more xs x ys s block more within (r, below, same) = (r, below, more.before r (omega arith) ∙ same)

-- a key that has a number
known_key : (keys : List ℕ) (numbers : List (Option ℕ)) (blocks firsts : List ℕ) (key block : ℕ) (keys' blocks' : List ℕ)
    → IsNumbering keys numbers blocks firsts → get_or numbers key None ≡ Some block
    → IsPushed keys key keys' → IsPushed blocks block blocks' → IsNumbering keys' numbers blocks' firsts
known_key keys numbers blocks firsts key block keys' blocks' is has more_keys more_blocks =
    let keys_len = more_keys.len in
    let blocks_len = more_blocks.len in
    let len = is.len in
    let short = is.short in
    record {
      len = omega arith;
      short = omega arith;
      known = λ s within. elim (cases_lt s (length keys)) [
        | inl below ↦
            rw (more_keys.before s below, more_blocks.before s (omega arith)) (is.known s below)
        | inr above ↦
            rw (more_keys.last s (omega arith), more_blocks.last s (omega arith)) has
      ];
      named = λ other b e.
          let old = is.named other b e in
          let at = is.first b old.0 in
          let at_within = at.within in
          (old.0, more_keys.before (get_or firsts b 0) (omega arith) ∙ old.1);
      first = λ b below. least_of_more blocks block blocks' b (get_or firsts b 0) more_blocks (is.first b below);
      by_least = λ s b within below. elim (cases_lt s (length blocks)) [
        | inl before ↦
            earlier_of_more blocks block blocks' s b more_blocks (omega arith)
            (is.by_least s b before (subst (λ n. b < n) (more_blocks.before s before) below))
        | inr last ↦
            let here : b < block = subst (λ n. b < n) (more_blocks.last s (omega arith)) below in
            let named = is.named key block has in
            let named_below = named.0 in
            let at = is.first b (omega arith) in
            let at_within = at.within in
            (get_or firsts b 0, omega arith, more_blocks.before (get_or firsts b 0) at.within ∙ at.member)
      ];
    }

-- where keys have numbers, they are below their count
counted : (keys : List ℕ) (numbers : List (Option ℕ)) (blocks firsts : List ℕ) → IsNumbering keys numbers blocks firsts
    → (s : ℕ) → s < length blocks → get_or blocks s 0 < length firsts
counted keys numbers blocks firsts is s within =
    let len = is.len in
    (is.named (get_or keys s 0) (get_or blocks s 0) (is.known s (omega arith))).0

-- a key that has none gets the next
new_key : (keys : List ℕ) (numbers : List (Option ℕ)) (blocks firsts : List ℕ) (key n : ℕ) (keys' blocks' firsts' : List ℕ)
    → IsNumbering keys numbers blocks firsts → get_or numbers key None ≡ None → key < length numbers → n ≡ length firsts
    → IsPushed keys key keys' → IsPushed blocks n blocks' → IsPushed firsts (length blocks) firsts'
    → IsNumbering keys' (set numbers key (Some n)) blocks' firsts'
new_key keys numbers blocks firsts key n keys' blocks' firsts' is has_none key_below n_is more_keys more_blocks more_firsts =
    let keys_len = more_keys.len in
    let blocks_len = more_blocks.len in
    let firsts_len = more_firsts.len in
    let len = is.len in
    let short = is.short in
    record {
      len = omega arith;
      short = omega arith;
      known = λ s within. elim (cases_lt s (length keys)) [
        | inl below ↦
            let old : get_or numbers (get_or keys s 0) None ≡ Some (get_or blocks s 0) = is.known s below in
            let other : get_or keys s 0 ≢ key = λ e. let at_key : get_or numbers key None ≡ Some (get_or blocks s 0) = ap (λ k. get_or numbers k None) (sym e) ∙ old in cc in
            rw (more_keys.before s below, more_blocks.before s (omega arith))
            (get_or-set_other numbers key (get_or keys s 0) (Some n) None other ∙ old)
        | inr above ↦
            rw (more_keys.last s (omega arith), more_blocks.last s (omega arith)) (get_or-set_same numbers key (Some n) None key_below)
      ];
      named = λ other b e. elim (cases_eq other key) [
        | inl same ↦
            let at_key : get_or (set numbers key (Some n)) key None ≡ Some b = ap (λ k. get_or (set numbers key (Some n)) k None) (sym same) ∙ e in
            let b_is : n ≡ b = same_Some n b (sym (get_or-set_same numbers key (Some n) None key_below) ∙ at_key) in (
              omega arith,
              ap (λ f. get_or keys' f 0) (more_firsts.last b (omega arith)) ∙ more_keys.last (length blocks) (omega arith) ∙ sym same,
            )
        | inr differ ↦
            let old = is.named other b (sym (get_or-set_other numbers key other (Some n) None differ) ∙ e) in
            let old_below = old.0 in
            let at = is.first b old.0 in
            let at_within = at.within in (
              omega arith,
              ap (λ f. get_or keys' f 0) (more_firsts.before b old.0) ∙ more_keys.before (get_or firsts b 0) (omega arith) ∙ old.1,
            )
      ];
      first = λ b below. elim (cases_lt b (length firsts)) [
        | inl before ↦
            subst (λ f. IsLeastOf blocks' b f) (sym (more_firsts.before b before))
            (least_of_more blocks n blocks' b (get_or firsts b 0) more_blocks (is.first b before))
        | inr last ↦
            let b_is : b ≡ n = omega arith in
            subst (λ f. IsLeastOf blocks' b f) (sym (more_firsts.last b (omega arith)))
            (record {
              within = omega arith;
              member = more_blocks.last (length blocks) refl ∙ sym b_is;
              least = λ r before same.
                  let less = counted keys numbers blocks firsts is r before in
                  let at : get_or blocks r 0 ≡ b = sym (more_blocks.before r before) ∙ same in
                  omega arith;
            })
      ];
      by_least = λ s b within below. elim (cases_lt s (length blocks)) [
        | inl before ↦
            earlier_of_more blocks n blocks' s b more_blocks (omega arith)
            (is.by_least s b before (subst (λ m. b < m) (more_blocks.before s before) below))
        | inr last ↦
            let here : b < n = subst (λ m. b < m) (more_blocks.last s (omega arith)) below in
            let at = is.first b (omega arith) in
            let at_within = at.within in
            (get_or firsts b 0, omega arith, more_blocks.before (get_or firsts b 0) at.within ∙ at.member)
      ];
    }

pub push_known : (keys : List ℕ) (numbers : List (Option ℕ)) (blocks firsts : List ℕ) (key block : ℕ)
    → get_or numbers key None ≡ Some block → IsNumbering keys numbers blocks firsts
    → IsNumbering (keys ++ key ∷ []) numbers (blocks ++ block ∷ []) firsts
push_known keys numbers blocks firsts key block has is =
    known_key keys numbers blocks firsts key block (keys ++ key ∷ []) (blocks ++ block ∷ []) is has (pushed keys key) (pushed blocks block)

pub push_new : (keys : List ℕ) (numbers : List (Option ℕ)) (blocks firsts : List ℕ) (key n i : ℕ) (blocks' firsts' : List ℕ)
    → get_or numbers key None ≡ None → key < length numbers → n ≡ length firsts → i ≡ length blocks
    → blocks' ≡ blocks ++ n ∷ [] → firsts' ≡ firsts ++ i ∷ [] → IsNumbering keys numbers blocks firsts
    → IsNumbering (keys ++ key ∷ []) (set numbers key (Some n)) blocks' firsts'
push_new keys numbers blocks firsts key n i blocks' firsts' has_none below n_is i_is blocks_is firsts_is is =
    new_key keys numbers blocks firsts key n (keys ++ key ∷ []) blocks' firsts' is has_none below n_is (pushed keys key)
    (subst (λ bs. IsPushed blocks n bs) (sym blocks_is) (pushed blocks n))
    (subst (λ fs. IsPushed firsts (length blocks) fs) (sym firsts_is) (subst (λ m. IsPushed firsts m (firsts ++ i ∷ [])) i_is (pushed firsts i)))

-- no key yet
pub none_numbered : (numbers : List (Option ℕ)) → ((key : ℕ) → get_or numbers key None ≡ None) → IsNumbering [] numbers [] []
none_numbered numbers none = record {
  len = refl;
  short = omega arith;
  known = λ s within. absurd (omega arith);
  named = λ key block e. let no = none key in absurd (cc);
  first = λ block below. absurd (omega arith);
  by_least = λ s block within. absurd (omega arith);
}

-- all keys
pub all_numbered : (keys : List ℕ) (numbers : List (Option ℕ)) (blocks firsts : List ℕ) → IsNumbering keys numbers blocks firsts
    → 0 < length keys → length keys < 2 ^ 32 → IsNumbered blocks firsts
all_numbered keys numbers blocks firsts is some few =
    let len = is.len in
    record {
      partition = record { some_symbol = omega arith; by_least = is.by_least };
      counted = counted keys numbers blocks firsts is;
      first = is.first;
      short = is.short;
      few = omega arith;
    }

pub same_numbers : (keys : List ℕ) (numbers : List (Option ℕ)) (blocks firsts : List ℕ) → IsNumbering keys numbers blocks firsts
    → (s t : ℕ) → s < length keys → t < length keys → Together blocks s t ↔ (get_or keys s 0 ≡ get_or keys t 0)
same_numbers keys numbers blocks firsts is s t s_in t_in =
    let s_known : get_or numbers (get_or keys s 0) None ≡ Some (get_or blocks s 0) = is.known s s_in in
    let t_known : get_or numbers (get_or keys t 0) None ≡ Some (get_or blocks t 0) = is.known t t_in in (
      λ same.
          let s_named = is.named (get_or keys s 0) (get_or blocks s 0) s_known in
          let t_named = is.named (get_or keys t 0) (get_or blocks t 0) t_known in
          sym s_named.1 ∙ ap (λ b. get_or keys (get_or firsts b 0) 0) same ∙ t_named.1,
      λ same. same_Some (get_or blocks s 0) (get_or blocks t 0) (sym s_known ∙ ap (λ key. get_or numbers key None) same ∙ t_known),
    )

-- what a read gives, whatever the default
pub read_of : (numbers : List (Option ℕ)) (key : ℕ) (read value : Option ℕ) → key < length numbers → read ≡ get_or numbers key read
    → read ≡ value → get_or numbers key None ≡ value
read_of numbers key read value below at e = get_or_default numbers key None read below ∙ sym at ∙ e

-- at the loop's end
pub every_key : (keys : List ℕ) (i : ℕ) (numbers : List (Option ℕ)) (blocks firsts : List ℕ) → length keys ≤ i
    → IsNumbering (take i keys) numbers blocks firsts → IsNumbering keys numbers blocks firsts
every_key keys i numbers blocks firsts all is = subst (λ ks. IsNumbering ks numbers blocks firsts) (take_all i keys all) is

-- what holds of the elements of a list and of the one that is pushed holds of all
pub each_pushed : (P : ℕ → ℕ → Type 0) (xs ys : List ℕ) (x n : ℕ) → length xs ≡ n → ((k : ℕ) → k < n → P k (get_or xs k 0)) → P n x
    → ys ≡ xs ++ x ∷ [] → (k : ℕ) → k < n + 1 → P k (get_or ys k 0)
each_pushed P xs ys x n len before last is k within =
    subst (λ (zs : List ℕ). P k (get_or zs k 0)) (sym is)
    (elim (cases_lt k n) [
      | inl below ↦ subst (P k) (sym (get_or_append_left xs (x ∷ []) 0 k (omega arith))) (before k below)
      | inr above ↦
          let here : k ≡ n = omega arith in
          subst (P k) (sym (get_or_push xs x 0 k (len ∙ sym here))) (subst (λ (j : ℕ). P j x) (sym here) last)
    ])

pub keys_pushed : (keys : List ℕ) (i : ℕ) (numbers : List (Option ℕ)) (blocks firsts : List ℕ) → i < length keys
    → IsNumbering (take i keys ++ get_or keys i 0 ∷ []) numbers blocks firsts → IsNumbering (take (i + 1) keys) numbers blocks firsts
keys_pushed keys i numbers blocks firsts within is = subst (λ (ks : List ℕ). IsNumbering ks numbers blocks firsts) (sym (take_more keys i 0 within)) is
