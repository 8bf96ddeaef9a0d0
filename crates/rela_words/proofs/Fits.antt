-- Of which commands parts are.
use Rattle.std.proofs.Common.{◌≡◌, ◌↔◌, ℕ, ◌^◌, ◌<◌, Bool, true, false, List, [], ◌∷◌, Option, Some, None, inl, inr, refl, sym, ap, subst, ◌∙◌, arith}
use Rattle.std.specs.Prelude.{Err, IfErr, Ok, Result, codes}
use Rattle.std.specs.Fmt.{decimal}
use Rattle.std.specs.Str.{bytes_eq}
use Rattle.std.proofs.lemmas.Fmt.{decimal_injective}
use Rattle.std.proofs.lemmas.Slice.Eq.{bytes_eq-Decides}
use Rattle.rela_words.specs.Words.{Command, Check, Fmt, Fib, Zone, Rir, Certify, Audit, Demo, Fit, IsUpTo, Parts, row_of}
use Rattle.rela_words.specs.Parts.{FitJust, FitNothing, HaveNoOptions, IsLimitUpTo, IsNumber}
use Rattle.rela_words.specs.declared.errors.WordsError.{WordsError}
use Rattle.rela_words.specs.declared.errors.WordsError.TheVariants.{Bad}
use Rattle.rela_words.proofs.WordKinds.{Word}

differ : {x y : Word} → x ≡ y → bytes_eq x y ≡ false → ⊥
differ {x} {y} same other = let both : true ≡ false = sym ((bytes_eq-Decides x y).1 same) ∙ other in cc

-- what the reading of a limit or a number says
module _ (P : ℕ → Type 0) (r : Option ℕ) (read : (k : ℕ) → (r ≡ Some k) ↔ P k) where
  pub just_read : (n : ℕ) → r ≡ Some n → P n
  just_read n is = (read n).0 is

  pub none_read : r ≡ None → (k : ℕ) → ¬ P k
  none_read is k holds = absurd (let some : None ≡ Some k = sym is ∙ (read k).1 holds in cc)

-- what holds anyway holds at an error
pub if_bad : {A : Type 0} (r : Result A WordsError) (P : Type 0) → P → IfErr r (λ e. e ≡ Bad → P)
if_bad (Ok a) P holds = tt
if_bad (Err e) P holds = λ bad. holds

-- ---- two commands of one name that parts fit are the same

one_number : (most : ℕ) → most < 2 ^ 64 → (m n : ℕ) → IsUpTo most m → IsUpTo most n → decimal m ≡ decimal n → m ≡ n
one_number most bound m n few fewer same = decimal_injective m n (omega (arith, few.1, bound)) (omega (arith, fewer.1, bound)) same

head_same : (v w : Word) → v ∷ [] ≡ w ∷ [] → v ≡ w
head_same v w e = cc

one_limit : (limits : List Word) (m n : ℕ) → IsLimitUpTo 4000000 limits m → IsLimitUpTo 4000000 limits n → m ≡ n
one_limit limits m n one other = elim one.0 [
  | inl e ↦ elim other.0 [
    | inl f ↦ one_number 4000000 (omega arith) m n one.1 other.1 (head_same (decimal m) (decimal n) (sym e ∙ f))
    | inr f ↦ absurd (let never : decimal m ∷ [] ≡ [] = sym e ∙ f.0 in cc)
  ]
  | inr e ↦ elim other.0 [
    | inl f ↦ absurd (let never : decimal n ∷ [] ≡ [] = sym f ∙ e.0 in cc)
    | inr f ↦ e.1 ∙ sym f.1
  ]
]

same_fib : (t o l t' o' l' : Word) → t ∷ o ∷ l ∷ [] ≡ t' ∷ o' ∷ l' ∷ [] → Fib t o l ≡ Fib t' o' l'
same_fib t o l t' o' l' e = cc

same_check : (b a l s b' a' l' s' : Word) (n n' : ℕ) (f f' : Bool) → b ∷ a ∷ l ∷ s ∷ [] ≡ b' ∷ a' ∷ l' ∷ s' ∷ [] → n ≡ n' → f ≡ f'
    → Check b a l s n f ≡ Check b' a' l' s' n' f'
same_check b a l s b' a' l' s' n n' f f' operands number flag = cc

same_zone : (l s c l' s' c' : Word) (n n' : ℕ) → l ∷ s ∷ c ∷ [] ≡ l' ∷ s' ∷ c' ∷ [] → n ≡ n' → Zone l s c n ≡ Zone l' s' c' n'
same_zone l s c l' s' c' n n' operands number = cc

same_rir : (b a l s b' a' l' s' : Word) (n n' : ℕ) → b ∷ a ∷ l ∷ s ∷ [] ≡ b' ∷ a' ∷ l' ∷ s' ∷ [] → n ≡ n' → Rir b a l s n ≡ Rir b' a' l' s' n'
same_rir b a l s b' a' l' s' n n' operands number = cc

same_certify : (b a l s b' a' l' s' : Word) (n n' : ℕ) → b ∷ a ∷ l ∷ s ∷ [] ≡ b' ∷ a' ∷ l' ∷ s' ∷ [] → n ≡ n' → Certify b a l s n ≡ Certify b' a' l' s' n'
same_certify b a l s b' a' l' s' n n' operands number = cc

same_audit : (b a l s t b' a' l' s' t' : Word) → b ∷ a ∷ l ∷ s ∷ t ∷ [] ≡ b' ∷ a' ∷ l' ∷ s' ∷ t' ∷ [] → Audit b a l s t ≡ Audit b' a' l' s' t'
same_audit b a l s t b' a' l' s' t' e = cc

module _ (parts : Parts) where
  one_fits : (c d : Command) → (row_of c).name ≡ (row_of d).name → Fit parts c → Fit parts d → c ≡ d
  one_fits (Check b a l s n f) (Check b' a' l' s' n' f') e one other =
      same_check b a l s b' a' l' s' n n' f f' (sym one.are_operands ∙ other.are_operands)
      (one_limit parts.limits n n' (one.is_limit, one.numbers) (other.is_limit, other.numbers)) (sym one.is_flag ∙ other.is_flag)
  one_fits (Fmt s) (Fmt s') e one other = ap Fmt (head_same s s' (sym one.are_operands ∙ other.are_operands))
  one_fits (Fib t o l) (Fib t' o' l') e one other = same_fib t o l t' o' l' (sym one.are_operands ∙ other.are_operands)
  one_fits (Zone l s c n) (Zone l' s' c' n') e one other =
      same_zone l s c l' s' c' n n' (sym one.are_operands ∙ other.are_operands)
      (one_limit parts.limits n n' (one.is_limit, one.numbers) (other.is_limit, other.numbers))
  one_fits (Rir b a l s n) (Rir b' a' l' s' n') e one other =
      same_rir b a l s b' a' l' s' n n' (sym one.are_operands ∙ other.are_operands)
      (one_limit parts.limits n n' (one.is_limit, one.numbers) (other.is_limit, other.numbers))
  one_fits (Demo n) (Demo n') e one other =
      ap Demo (one_number 200 (omega arith) n n' one.numbers other.numbers (head_same (decimal n) (decimal n') (sym one.are_operands ∙ other.are_operands)))
  one_fits (Check b a l s n f) (Fmt s') e one other = absurd (differ e refl)
  one_fits (Check b a l s n f) (Fib t' o' l') e one other = absurd (differ e refl)
  one_fits (Check b a l s n f) (Zone l' s' c' n') e one other = absurd (differ e refl)
  one_fits (Check b a l s n f) (Rir b' a' l' s' n') e one other = absurd (differ e refl)
  one_fits (Check b a l s n f) (Demo n') e one other = absurd (differ e refl)
  one_fits (Fmt s) (Check b' a' l' s' n' f') e one other = absurd (differ e refl)
  one_fits (Fmt s) (Fib t' o' l') e one other = absurd (differ e refl)
  one_fits (Fmt s) (Zone l' s' c' n') e one other = absurd (differ e refl)
  one_fits (Fmt s) (Rir b' a' l' s' n') e one other = absurd (differ e refl)
  one_fits (Fmt s) (Demo n') e one other = absurd (differ e refl)
  one_fits (Fib t o l) (Check b' a' l' s' n' f') e one other = absurd (differ e refl)
  one_fits (Fib t o l) (Fmt s') e one other = absurd (differ e refl)
  one_fits (Fib t o l) (Zone l' s' c' n') e one other = absurd (differ e refl)
  one_fits (Fib t o l) (Rir b' a' l' s' n') e one other = absurd (differ e refl)
  one_fits (Fib t o l) (Demo n') e one other = absurd (differ e refl)
  one_fits (Zone l s c n) (Check b' a' l' s' n' f') e one other = absurd (differ e refl)
  one_fits (Zone l s c n) (Fmt s') e one other = absurd (differ e refl)
  one_fits (Zone l s c n) (Fib t' o' l') e one other = absurd (differ e refl)
  one_fits (Zone l s c n) (Rir b' a' l' s' n') e one other = absurd (differ e refl)
  one_fits (Zone l s c n) (Demo n') e one other = absurd (differ e refl)
  one_fits (Rir b a l s n) (Check b' a' l' s' n' f') e one other = absurd (differ e refl)
  one_fits (Rir b a l s n) (Fmt s') e one other = absurd (differ e refl)
  one_fits (Rir b a l s n) (Fib t' o' l') e one other = absurd (differ e refl)
  one_fits (Rir b a l s n) (Zone l' s' c' n') e one other = absurd (differ e refl)
  one_fits (Rir b a l s n) (Demo n') e one other = absurd (differ e refl)
  one_fits (Demo n) (Check b' a' l' s' n' f') e one other = absurd (differ e refl)
  one_fits (Demo n) (Fmt s') e one other = absurd (differ e refl)
  one_fits (Demo n) (Fib t' o' l') e one other = absurd (differ e refl)
  one_fits (Demo n) (Zone l' s' c' n') e one other = absurd (differ e refl)
  one_fits (Demo n) (Rir b' a' l' s' n') e one other = absurd (differ e refl)
  one_fits (Audit b a l s t) (Audit b' a' l' s' t') e one other = same_audit b a l s t b' a' l' s' t' (sym one.are_operands ∙ other.are_operands)
  one_fits (Check b a l s n f) (Audit b' a' l' s' t') e one other = absurd (differ e refl)
  one_fits (Fmt s) (Audit b' a' l' s' t') e one other = absurd (differ e refl)
  one_fits (Fib t o l) (Audit b' a' l' s' t') e one other = absurd (differ e refl)
  one_fits (Zone l s c n) (Audit b' a' l' s' t') e one other = absurd (differ e refl)
  one_fits (Rir b a l s n) (Audit b' a' l' s' t') e one other = absurd (differ e refl)
  one_fits (Demo n) (Audit b' a' l' s' t') e one other = absurd (differ e refl)
  one_fits (Audit b a l s t) (Check b' a' l' s' n' f') e one other = absurd (differ e refl)
  one_fits (Audit b a l s t) (Fmt s') e one other = absurd (differ e refl)
  one_fits (Audit b a l s t) (Fib t' o' l') e one other = absurd (differ e refl)
  one_fits (Audit b a l s t) (Zone l' s' c' n') e one other = absurd (differ e refl)
  one_fits (Audit b a l s t) (Rir b' a' l' s' n') e one other = absurd (differ e refl)
  one_fits (Audit b a l s t) (Demo n') e one other = absurd (differ e refl)
  one_fits (Certify b a l s n) (Certify b' a' l' s' n') e one other =
      same_certify b a l s b' a' l' s' n n' (sym one.are_operands ∙ other.are_operands)
      (one_limit parts.limits n n' (one.is_limit, one.numbers) (other.is_limit, other.numbers))
  one_fits (Check b a l s n f) (Certify b' a' l' s' n') e one other = absurd (differ e refl)
  one_fits (Certify b a l s n) (Check b' a' l' s' n' f') e one other = absurd (differ e refl)
  one_fits (Fmt s) (Certify b' a' l' s' n') e one other = absurd (differ e refl)
  one_fits (Certify b a l s n) (Fmt s') e one other = absurd (differ e refl)
  one_fits (Fib t o l) (Certify b' a' l' s' n') e one other = absurd (differ e refl)
  one_fits (Certify b a l s n) (Fib t' o' l') e one other = absurd (differ e refl)
  one_fits (Zone l s c n) (Certify b' a' l' s' n') e one other = absurd (differ e refl)
  one_fits (Certify b a l s n) (Zone l' s' c' n') e one other = absurd (differ e refl)
  one_fits (Rir b a l s n) (Certify b' a' l' s' n') e one other = absurd (differ e refl)
  one_fits (Certify b a l s n) (Rir b' a' l' s' n') e one other = absurd (differ e refl)
  one_fits (Audit b a l s t) (Certify b' a' l' s' n') e one other = absurd (differ e refl)
  one_fits (Certify b a l s n) (Audit b' a' l' s' t') e one other = absurd (differ e refl)
  one_fits (Demo n) (Certify b' a' l' s' n') e one other = absurd (differ e refl)
  one_fits (Certify b a l s n) (Demo n') e one other = absurd (differ e refl)

  -- one command of this name
  pub just : (name : Word) (made : Command) → (row_of made).name ≡ name → Fit parts made → FitJust name parts made
  just name made named fits command = (
    λ both. one_fits command made (both.0 ∙ sym named) both.1 fits,
    λ same. (ap (λ c. (row_of c).name) same ∙ named, subst (Fit parts) (sym same) fits),
  )

  -- ---- what the parts of each are

  pub check_just : (b a l s : Word) (n : ℕ) → parts.operands ≡ b ∷ a ∷ l ∷ s ∷ [] → IsLimitUpTo 4000000 parts.limits n
      → FitJust (codes "check") parts (Check b a l s n parts.blame)
  check_just b a l s n operands limit = just (codes "check") (Check b a l s n parts.blame) refl
      (record { are_operands = operands; is_limit = limit.0; is_flag = refl; numbers = limit.1 })

  pub zone_just : (l s c : Word) (n : ℕ) → parts.operands ≡ l ∷ s ∷ c ∷ [] → IsLimitUpTo 4000000 parts.limits n × (parts.blame ≡ false)
      → FitJust (codes "zone") parts (Zone l s c n)
  zone_just l s c n operands limit = just (codes "zone") (Zone l s c n) refl
      (record { are_operands = operands; is_limit = limit.0.0; is_flag = limit.1; numbers = limit.0.1 })

  pub rir_just : (b a l s : Word) (n : ℕ) → parts.operands ≡ b ∷ a ∷ l ∷ s ∷ [] → IsLimitUpTo 4000000 parts.limits n × (parts.blame ≡ false)
      → FitJust (codes "rir") parts (Rir b a l s n)
  rir_just b a l s n operands limit = just (codes "rir") (Rir b a l s n) refl
      (record { are_operands = operands; is_limit = limit.0.0; is_flag = limit.1; numbers = limit.0.1 })

  pub certify_just : (b a l s : Word) (n : ℕ) → parts.operands ≡ b ∷ a ∷ l ∷ s ∷ [] → IsLimitUpTo 4000000 parts.limits n × (parts.blame ≡ false)
      → FitJust (codes "certify") parts (Certify b a l s n)
  certify_just b a l s n operands limit = just (codes "certify") (Certify b a l s n) refl
      (record { are_operands = operands; is_limit = limit.0.0; is_flag = limit.1; numbers = limit.0.1 })

  pub fmt_just : (s : Word) → parts.operands ≡ s ∷ [] → HaveNoOptions parts → FitJust (codes "fmt") parts (Fmt s)
  fmt_just s operands none = just (codes "fmt") (Fmt s) refl (record { are_operands = operands; is_limit = none.0; is_flag = none.1; numbers = tt })

  pub fib_just : (t o l : Word) → parts.operands ≡ t ∷ o ∷ l ∷ [] → HaveNoOptions parts → FitJust (codes "fib") parts (Fib t o l)
  fib_just t o l operands none = just (codes "fib") (Fib t o l) refl (record { are_operands = operands; is_limit = none.0; is_flag = none.1; numbers = tt })

  pub audit_just : (b a l s t : Word) → parts.operands ≡ b ∷ a ∷ l ∷ s ∷ t ∷ [] → HaveNoOptions parts → FitJust (codes "audit") parts (Audit b a l s t)
  audit_just b a l s t operands none = just (codes "audit") (Audit b a l s t) refl (record { are_operands = operands; is_limit = none.0; is_flag = none.1; numbers = tt })

  pub demo_just : (w : Word) (n : ℕ) → parts.operands ≡ w ∷ [] → HaveNoOptions parts → IsNumber 200 w n → FitJust (codes "demo") parts (Demo n)
  demo_just w n operands none number = just (codes "demo") (Demo n) refl
      (record { are_operands = operands ∙ ap (λ v. v ∷ []) number.0; is_limit = none.0; is_flag = none.1; numbers = number.1 })

  -- ---- what isn't the parts of any

  pub check_unlimited : ((k : ℕ) → ¬ IsLimitUpTo 4000000 parts.limits k) → FitNothing (codes "check") parts
  check_unlimited none (Certify b a l s n) e fit = absurd (differ e refl)
  check_unlimited none (Audit b a l s t) e fit = absurd (differ e refl)
  check_unlimited none (Check b a l s n f) e fit = none n (fit.is_limit, fit.numbers)
  check_unlimited none (Fmt s) e fit = absurd (differ e refl)
  check_unlimited none (Fib t o l) e fit = absurd (differ e refl)
  check_unlimited none (Zone l s c n) e fit = absurd (differ e refl)
  check_unlimited none (Rir b a l s n) e fit = absurd (differ e refl)
  check_unlimited none (Demo n) e fit = absurd (differ e refl)

  pub zone_unlimited : ((k : ℕ) → ¬ (IsLimitUpTo 4000000 parts.limits k × (parts.blame ≡ false))) → FitNothing (codes "zone") parts
  zone_unlimited none (Certify b a l s n) e fit = absurd (differ e refl)
  zone_unlimited none (Audit b a l s t) e fit = absurd (differ e refl)
  zone_unlimited none (Zone l s c n) e fit = none n ((fit.is_limit, fit.numbers), fit.is_flag)
  zone_unlimited none (Check b a l s n f) e fit = absurd (differ e refl)
  zone_unlimited none (Fmt s) e fit = absurd (differ e refl)
  zone_unlimited none (Fib t o l) e fit = absurd (differ e refl)
  zone_unlimited none (Rir b a l s n) e fit = absurd (differ e refl)
  zone_unlimited none (Demo n) e fit = absurd (differ e refl)

  pub rir_unlimited : ((k : ℕ) → ¬ (IsLimitUpTo 4000000 parts.limits k × (parts.blame ≡ false))) → FitNothing (codes "rir") parts
  rir_unlimited none (Certify b a l s n) e fit = absurd (differ e refl)
  rir_unlimited none (Audit b a l s t) e fit = absurd (differ e refl)
  rir_unlimited none (Rir b a l s n) e fit = none n ((fit.is_limit, fit.numbers), fit.is_flag)
  rir_unlimited none (Check b a l s n f) e fit = absurd (differ e refl)
  rir_unlimited none (Fmt s) e fit = absurd (differ e refl)
  rir_unlimited none (Fib t o l) e fit = absurd (differ e refl)
  rir_unlimited none (Zone l s c n) e fit = absurd (differ e refl)
  rir_unlimited none (Demo n) e fit = absurd (differ e refl)

  pub certify_unlimited : ((k : ℕ) → ¬ (IsLimitUpTo 4000000 parts.limits k × (parts.blame ≡ false))) → FitNothing (codes "certify") parts
  certify_unlimited none (Rir b a l s n) e fit = absurd (differ e refl)
  certify_unlimited none (Audit b a l s t) e fit = absurd (differ e refl)
  certify_unlimited none (Certify b a l s n) e fit = none n ((fit.is_limit, fit.numbers), fit.is_flag)
  certify_unlimited none (Check b a l s n f) e fit = absurd (differ e refl)
  certify_unlimited none (Fmt s) e fit = absurd (differ e refl)
  certify_unlimited none (Fib t o l) e fit = absurd (differ e refl)
  certify_unlimited none (Zone l s c n) e fit = absurd (differ e refl)
  certify_unlimited none (Demo n) e fit = absurd (differ e refl)

  pub demo_unnumbered : (w : Word) → parts.operands ≡ w ∷ [] → ((k : ℕ) → ¬ IsNumber 200 w k) → FitNothing (codes "demo") parts
  demo_unnumbered w operands none (Certify b a l s n) e fit = absurd (differ e refl)
  demo_unnumbered w operands none (Audit b a l s t) e fit = absurd (differ e refl)
  demo_unnumbered w operands none (Demo n) e fit = none n (head_same w (decimal n) (sym operands ∙ fit.are_operands), fit.numbers)
  demo_unnumbered w operands none (Check b a l s n f) e fit = absurd (differ e refl)
  demo_unnumbered w operands none (Fmt s) e fit = absurd (differ e refl)
  demo_unnumbered w operands none (Fib t o l) e fit = absurd (differ e refl)
  demo_unnumbered w operands none (Zone l s c n) e fit = absurd (differ e refl)
  demo_unnumbered w operands none (Rir b a l s n) e fit = absurd (differ e refl)
