-- Numbers that agree in their first bits.
use Rattle.std.proofs.Common.{◌≡◌, ℕ, ◌+◌, ◌-◌, ◌*◌, ◌/◌, ◌%◌, ◌^◌, ◌<◌, ◌≤◌, refl, sym, ◌∙◌, ap, arith, ⊎_elim}
use Rattle.std.proofs.lemmas.Nat.{pow-add, pow_pos, div-mul-add, div-add-mod', div_below, pow_below}
use Rattle.std.proofs.lemmas.Bool.{cases_lt}
use Rattle.std.proofs.Math.Nat.{div-div-eq-div-mul, add-div_right}
use Rattle.rela_flows.specs.Address.{AgreeInFirst}

-- the first m bits of a number are those of its first n bits
pub leading_of_more : (w n m a : ℕ) → m ≤ n → n ≤ w → a / 2 ^ (w - m) ≡ a / 2 ^ (w - n) / 2 ^ (n - m)
leading_of_more w n m a fewer fits =
    let widths : w - m ≡ (w - n) + (n - m) = omega arith in
    ap (λ k. a / 2 ^ k) widths
    ∙ ap (λ k. a / k) (pow-add 2 (w - n) (n - m))
    ∙ sym (div-div-eq-div-mul a (2 ^ (w - n)) (2 ^ (n - m)))

-- what agrees in the first n bits agrees in fewer
pub coarser : (w n m a b : ℕ) → m ≤ n → n ≤ w → a / 2 ^ (w - n) ≡ b / 2 ^ (w - n) → a / 2 ^ (w - m) ≡ b / 2 ^ (w - m)
coarser w n m a b fewer fits same =
    leading_of_more w n m a fewer fits
    ∙ ap (λ k. k / 2 ^ (n - m)) same
    ∙ sym (leading_of_more w n m b fewer fits)

block_step : (q k m x t : ℕ) → q < m → x ≡ q * k → t ≡ m * k → x + k ≤ t
block_step q k m x t h e f = grind arith

-- a block of 2 ^ (w - n) numbers that begins below 2 ^ w ends there
pub block_fits : (w n x : ℕ) → n ≤ w → x < 2 ^ w → x % 2 ^ (w - n) ≡ 0 → x + 2 ^ (w - n) ≤ 2 ^ w
block_fits w n x fits small zeros =
    let k : ℕ = 2 ^ (w - n) in
    let whole : 2 ^ w ≡ 2 ^ n * k =
    ap (λ j. 2 ^ j) (let e : w ≡ n + (w - n) = omega arith in e) ∙ pow-add 2 n (w - n) in
    let positive : 0 < k = pow_pos (w - n) in
    let below : x / k < 2 ^ n = div_below x k (2 ^ n) positive (rw (← whole) small) in
    let blocks : x ≡ x / k * k = omega (arith, div-add-mod' x k) in
    block_step (x / k) k (2 ^ n) x (2 ^ w) below blocks whole

-- the numbers that agree with x in its first n bits agree with y in fewer, where x does
pub covered : (w n m x y : ℕ) → n ≤ w → m ≤ n → x / 2 ^ (w - m) ≡ y / 2 ^ (w - m) → (a : ℕ) → AgreeInFirst w n a x → AgreeInFirst w m a y
covered w n m x y fits fewer same a has =
    record { fits = has.fits; first_bits = coarser w n m a x fewer fits has.first_bits ∙ same }

-- x begins a block of 2 ^ (w - n) numbers
pub record IsBlock (w n x : ℕ) : Type 0 where
  pub fits : n ≤ w
  pub small : x < 2 ^ w
  pub zeros : x % 2 ^ (w - n) ≡ 0

-- a number whose first bits are a block's own
pub own_number : (w n x : ℕ) → IsBlock w n x → AgreeInFirst w n x x
own_number w n x block = record { fits = block.small; first_bits = refl }

-- a smaller power k of the block's size is the distance of two numbers of the block
far_number : (w n x k : ℕ) → IsBlock w n x → k < 2 ^ (w - n) → AgreeInFirst w n (x + k) x
far_number w n x k block inside =
    let blocks : x ≡ x / 2 ^ (w - n) * 2 ^ (w - n) = omega (arith, div-add-mod' x (2 ^ (w - n)), block.zeros) in
    let ends : x + 2 ^ (w - n) ≤ 2 ^ w = block_fits w n x block.fits block.small block.zeros in
    record {
      fits = omega arith;
      first_bits = ap (λ j. (j + k) / 2 ^ (w - n)) blocks ∙ div-mul-add (x / 2 ^ (w - n)) (2 ^ (w - n)) k inside;
    }

-- a block lies only in a block that fixes as many bits or fewer
pub fewer_from_covered : (w n m x y : ℕ) → IsBlock w n x → m ≤ w → ((a : ℕ) → AgreeInFirst w n a x → AgreeInFirst w m a y) → m ≤ n
fewer_from_covered w n m x y block fits within = ⊎_elim
    (λ longer.
    let step : 2 ^ (w - m) < 2 ^ (w - n) = pow_below (w - m) (w - n) (omega arith) in
    let near : AgreeInFirst w m x y = within x (own_number w n x block) in
    let far : AgreeInFirst w m (x + 2 ^ (w - m)) y = within (x + 2 ^ (w - m)) (far_number w n x (2 ^ (w - m)) block step) in
    absurd (omega (arith, near.first_bits, far.first_bits, add-div_right x (pow_pos (w - m)))))
    (λ enough. enough)
    (cases_lt n m)
