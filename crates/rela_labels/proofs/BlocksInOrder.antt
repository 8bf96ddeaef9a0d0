-- Partitions and the number of their blocks.
use Rattle.std.proofs.Common.{zero, suc, ◌≡◌, ℕ, ◌-◌, ◌^◌, ◌<◌, ◌≤◌, ◌↔◌, List, [], ◌∷◌, length, get_or, replicate, inl, inr, arith, refl, sym, ap, subst, ◌∙◌}
use Rattle.std.proofs.lemmas.Bool.{cases_lt, cases_order}
use Rattle.std.proofs.lemmas.Grind.{same_number_lists}
use Rattle.std.proofs.lemmas.List.{get_or_default, get_or-replicate, length-replicate}
use Rattle.std.specs.List.{All}
use Rattle.rela_labels.specs.Partition.{block_count, IsLeastOf, IsPartition, IsNumbered, Together}

count_at_most : (blocks : List ℕ) (n : ℕ) → ((s : ℕ) → s < length blocks → get_or blocks s 0 < n) → block_count blocks ≤ n
unfolding block_count
count_at_most [] n below = omega arith
count_at_most (b ∷ others) n below =
    let rest : block_count others ≤ n = count_at_most others n (λ s within. below (suc s) (omega arith)) in
    let here : b < n = below zero (omega arith) in
    omega arith

pub within_count : (blocks : List ℕ) (s : ℕ) → s < length blocks → get_or blocks s 0 < block_count blocks
unfolding block_count
within_count [] s within = absurd (omega arith)
within_count (b ∷ others) zero within = omega arith
within_count (b ∷ others) (suc s) within = let rest = within_count others s (omega arith) in omega arith

pub all_within_count : (blocks : List ℕ) → All (λ block. block < block_count blocks) blocks
all_within_count blocks = λ k d within.
    let below = within_count blocks k within in
    let same : get_or blocks k d ≡ get_or blocks k 0 = get_or_default blocks k d 0 within in
    omega arith

-- the blocks have the numbers below their count, each with its least symbol
pub counts : (blocks firsts : List ℕ) → IsNumbered blocks firsts → block_count blocks ≡ length firsts
counts blocks firsts is =
    let most : block_count blocks ≤ length firsts = count_at_most blocks (length firsts) is.counted in
    elim (cases_lt (block_count blocks) (length firsts)) [
      | inl less ↦
          let last = is.first (length firsts - 1) (omega arith) in
          let s_below = within_count blocks (get_or firsts (length firsts - 1) 0) last.within in
          let member : get_or blocks (get_or firsts (length firsts - 1) 0) 0 ≡ length firsts - 1 = last.member in
          absurd (omega arith)
      | inr no_less ↦ omega arith
    ]

pub count_of_one : (n : ℕ) (blocks : List ℕ) → 1 ≤ n → blocks ≡ replicate n 0 → block_count blocks ≡ 1
count_of_one n blocks some blocks_are =
    let len : length blocks ≡ n = ap length blocks_are ∙ length-replicate n 0 in
    let most : block_count blocks ≤ 1 = count_at_most blocks 1 (λ s within.
    let zero_there : get_or blocks s 0 ≡ 0 = ap (λ bs. get_or bs s 0) blocks_are ∙ get_or-replicate n s 0 0 (omega arith) in
    omega arith)
    in
    let least = within_count blocks 0 (omega arith) in
    omega arith

pub own_blocks : (n : ℕ) (blocks firsts : List ℕ) → 1 ≤ n → n < 2 ^ 32 → length blocks ≡ n → length firsts ≡ n
    → ((s : ℕ) → s < n → get_or blocks s 0 ≡ s) → ((s : ℕ) → s < n → get_or firsts s 0 ≡ s) → IsNumbered blocks firsts
own_blocks n blocks firsts some few blocks_len firsts_len blocks_are firsts_are = record {
  partition = record {
    some_symbol = omega arith;
    by_least = λ s block within below.
        let s_is = blocks_are s (omega arith) in
        (block, omega arith, blocks_are block (omega arith));
  };
  counted = λ s within. let s_is = blocks_are s (omega arith) in omega arith;
  first = λ block below.
      let place : get_or firsts block 0 ≡ block = firsts_are block (omega arith) in
      subst (λ s. IsLeastOf blocks block s) (sym place)
      (record {
        within = omega arith;
        member = blocks_are block (omega arith);
        least = λ r before same. let r_is = blocks_are r (omega arith) in omega arith;
      });
  short = omega arith;
  few = omega arith;
}

-- what a reader of the fields learns of the value
pub count_of_value : (blocks firsts value : List ℕ) (n : ℕ) → IsNumbered blocks firsts → blocks ≡ value → n ≡ length firsts → n ≡ block_count value
count_of_value blocks firsts value n is e n_is = n_is ∙ sym (counts blocks firsts is) ∙ ap block_count e

pub block_below : (blocks firsts value : List ℕ) (s block : ℕ) → IsNumbered blocks firsts → blocks ≡ value → s < length value
    → block ≡ get_or blocks s block → block < block_count value
block_below blocks firsts value s block is e within read =
    let len : length blocks ≡ length value = ap length e in
    let below = is.counted s (omega arith) in
    let same : block ≡ get_or blocks s 0 = read ∙ get_or_default blocks s block 0 (omega arith) in
    let count = count_of_value blocks firsts value (length firsts) is e refl in
    omega arith

pub firsts_below : (blocks firsts value : List ℕ) (block n : ℕ) → IsNumbered blocks firsts → blocks ≡ value → n ≡ length firsts
    → block < block_count value → block < n
firsts_below blocks firsts value block n is e n_is below = let count = count_of_value blocks firsts value n is e n_is in omega arith

pub least_of_value : (blocks firsts value : List ℕ) (block s : ℕ) → IsNumbered blocks firsts → blocks ≡ value → block < block_count value
    → s ≡ get_or firsts block s → IsLeastOf value block s
least_of_value blocks firsts value block s is e below read =
    let within : block < length firsts = firsts_below blocks firsts value block (length firsts) is e refl below in
    let same : s ≡ get_or firsts block 0 = read ∙ get_or_default firsts block s 0 within in
    subst (λ bs. IsLeastOf bs block s) e (subst (λ r. IsLeastOf blocks block r) (sym same) (is.first block within))

-- two partitions whose symbols share blocks alike are the same
alike : (p q : List ℕ) → IsPartition p → IsPartition q → length p ≡ length q
    → ((s t : ℕ) → s < length p → t < length p → Together p s t ↔ Together q s t)
    → (n s : ℕ) → s < n → n ≤ length p → get_or p s 0 ≡ get_or q s 0
alike p q p_is q_is len same zero s below most = absurd (omega arith)
alike p q p_is q_is len same (suc n) s below most =
    elim (cases_lt s n) [
      | inl before ↦ alike p q p_is q_is len same n s before (omega arith)
      | inr last ↦ elim (cases_order (get_or p s 0) (get_or q s 0)) [
        | inl equal ↦ equal
        | inr apart ↦ elim apart [
          | inl less ↦
              let earlier = q_is.by_least s (get_or p s 0) (omega arith) less in
              let r_below : earlier.0 < s = earlier.1 in
              let r_same : get_or p earlier.0 0 ≡ get_or q earlier.0 0 = alike p q p_is q_is len same n earlier.0 (omega arith) (omega arith) in
              sym earlier.2 ∙ (same earlier.0 s (omega arith) (omega arith)).0 (r_same ∙ earlier.2)
          | inr more ↦
              let earlier = p_is.by_least s (get_or q s 0) (omega arith) more in
              let r_below : earlier.0 < s = earlier.1 in
              let r_same : get_or p earlier.0 0 ≡ get_or q earlier.0 0 = alike p q p_is q_is len same n earlier.0 (omega arith) (omega arith) in
              sym ((same earlier.0 s (omega arith) (omega arith)).1 (sym r_same ∙ earlier.2)) ∙ earlier.2
        ]
      ]
    ]

pub same_partitions : (p q : List ℕ) → IsPartition p → IsPartition q → length p ≡ length q
    → ((s t : ℕ) → s < length p → t < length p → Together p s t ↔ Together q s t) → p ≡ q
same_partitions p q p_is q_is len same = same_number_lists p q len (λ k within. alike p q p_is q_is len same (length p) k within (omega arith))
