use Rattle.std.proofs.Common.{◌≡◌, ◌++◌, ◌∷◌, ◌^◌, ◌<◌, ◌≤◌, ◌/◌, ◌%◌, ◌+◌, ℕ, List, [], arith, append_assoc}
use Rattle.std.proofs.lemmas.Fmt.{decimal_digit, decimal_step}
use Rattle.std.specs.Fmt.{decimal}
use Rattle.rela_names.proofs.alphabet.+push_decimal.Goals as goal
use Rattle.rela_names.proofs.alphabet.+push_decimal.Goals.{then-n-ge10+in_ok-push_decimal, else-n-ge10}

-- the digits before the last, and then the last
last_digit : (text before after : List ℕ) (n : ℕ) → 10 ≤ n → n < 2 ^ 64 → before ≡ text ++ decimal (n / 10) → after ≡ before ++ (48 + n % 10) ∷ [] → after ≡ text ++ decimal n
last_digit text before after n many small e f =
    rw (f, e, decimal_step n many small) (append_assoc text (decimal (n / 10)) ((48 + n % 10) ∷ []))

one_digit : (text after : List ℕ) (n : ℕ) → n < 10 → after ≡ text ++ (48 + n % 10) ∷ [] → after ≡ text ++ decimal n
one_digit text after n few f =
    let same : n % 10 ≡ n = omega arith in
    rw (f, decimal_digit n few, same)

pub returns : goal.returns
returns t c =
    let pushed = c.in_ok-push.ensures.items in
    let small : c.args.n < 2 ^ 64 = omega arith in
    elim c.if-n-ge10.branch [
      | then-n-ge10+in_ok-push_decimal w ↦
          last_digit c.args.text.now.items w.push_decimal.new.text.items c.push.new.self.items c.args.n w.if-n-ge10.true small
          w.in_ok-push_decimal.ensures (rw (← w.text-is) pushed)
      | else-n-ge10 w ↦
          let few : c.args.n < 10 = omega arith in
          one_digit c.args.text.now.items c.push.new.self.items c.args.n few (rw (← w.text-is) pushed)
    ]
