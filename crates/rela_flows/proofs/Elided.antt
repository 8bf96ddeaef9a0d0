-- The number of digits with zeros between.
use Rattle.std.proofs.Common.{◌≡◌, ℕ, ◌+◌, ◌*◌, ◌^◌, zero, suc, List, [], ◌∷◌, ◌++◌, length, replicate, sym, ◌∙◌, ap, arith}
use Rattle.std.specs.Int.Digits.{number_from_digits, number_from_digits_after}
use Rattle.std.proofs.lemmas.Int.Digits.{number_after_append}
use Rattle.std.proofs.Math.Nat.{pow-zero, pow-suc, pow-succ'}
use Rattle.std.proofs.lemmas.Nat.{pow-add}

shift_step : (b p n d x y z : ℕ) → x ≡ (n * b + d) * p + z → y ≡ (0 * b + d) * p + z → x ≡ n * (b * p) + y
shift_step b p n d x y z e f = omega arith

-- digits after a number shift it
pub number_after : (b n : ℕ) (ds : List ℕ) → number_from_digits_after b n ds ≡ n * b ^ length ds + number_from_digits b ds
number_after b n [] = rw (pow-zero b) (omega arith)
number_after b n (d ∷ ds) =
    rw (pow-succ' b (length ds))
    (shift_step b (b ^ length ds) n d _ _ (number_from_digits b ds) (number_after b (n * b + d) ds) (number_after b (0 * b + d) ds))

zero_step : (n b p x : ℕ) → x ≡ (n * b + 0) * p → x ≡ n * (b * p)
zero_step n b p x e = omega arith

number_zeros : (b n z : ℕ) → number_from_digits_after b n (replicate z 0) ≡ n * b ^ z
number_zeros b n zero = rw (pow-zero b) (omega arith)
number_zeros b n (suc z) = rw (pow-succ' b z) (zero_step n b (b ^ z) _ (number_zeros b (n * b + 0) z))

shift_by : (n p q r m x y : ℕ) → m ≡ n * p → x ≡ m * q + y → r ≡ p * q → x ≡ n * r + y
shift_by n p q r m x y e f g =
    let h : x ≡ n * p * q + y = rw e at f in rw g (omega arith)

pub number_elided : (b z : ℕ) (left right : List ℕ) → number_from_digits b (left ++ replicate z 0 ++ right) ≡ number_from_digits b left * b ^ (z + length right) + number_from_digits b right
number_elided b z left right =
    let n : ℕ = number_from_digits b left in
    let zeros : number_from_digits b (left ++ replicate z 0) ≡ n * b ^ z =
    number_after_append b 0 left (replicate z 0) ∙ number_zeros b n z in
    let all : number_from_digits b (left ++ replicate z 0 ++ right) ≡ number_from_digits b (left ++ replicate z 0) * b ^ length right + number_from_digits b right =
    number_after_append b 0 (left ++ replicate z 0) right ∙ number_after b (number_from_digits b (left ++ replicate z 0)) right in
    shift_by n (b ^ z) (b ^ length right) (b ^ (z + length right)) _ _ _ zeros all (pow-add b z (length right))

-- a power of a power of two
pub power_of_power : (m k : ℕ) → (2 ^ m) ^ k ≡ 2 ^ (m * k)
power_of_power m zero = pow-zero (2 ^ m) ∙ ap (λ j. 2 ^ j) (let e : 0 ≡ m * 0 = omega arith in e)
power_of_power m (suc k) =
    pow-suc (2 ^ m) k ∙ ap (λ x. x * 2 ^ m) (power_of_power m k) ∙ sym (pow-add 2 (m * k) m)
    ∙ ap (λ j. 2 ^ j) (let e : m * k + m ≡ m * suc k = omega arith in e)
