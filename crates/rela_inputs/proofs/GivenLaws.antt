-- What chained steps give, by what each of them answered.
use Rattle.std.proofs.Common.{◌≡◌, ◌≢◌, ◌∙◌, ℕ, ◌≤◌, Bool, true, false, nat_lt, IsTrue, List, Result, Ok, Err, IfOk, refl, sym, subst, rules}
use Rattle.std.specs.Result.{IfErr}
use Rattle.rela_snapshot.specs.Steps.{After, ◌>>=◌}
use Rattle.rela_inputs.specs.Given.{Equals, seen, IsToldBy, Agrees, IsGiven, IsRead}
use Rattle.rela_inputs.specs.Inputs.{Gives}
use Rattle.rela_inputs.specs.Reading.{is_too_long, max_file_bytes, Ends, HaltsInside}
use Rattle.rela_inputs.specs.declared.reading.Halt.{Halt}
use Rattle.rela_inputs.specs.declared.reading.Halt.TheVariants.{Refused, ReadFault, Memory}
use Rattle.rela_inputs.specs.declared.refusal.Refusal.{Refusal}

-- want of memory settles nothing
pub no_memory : {A : Type 0} (told steady : Bool) (Same : A → A → Type 0) (Steps : Result A Refusal → Type 0) → IsGiven told steady Same Steps (Err Memory)
no_memory told steady Same Steps = record { told_by = tt; alone = λ t given steps. tt }

module _ {A B : Type 0} (told steady : Bool) (Same : A → A → Type 0) (Alike : B → B → Type 0) (Step : Result A Refusal → Type 0) (Next : A → Result B Refusal → Type 0) where
  stopped_alone : (halt : Halt) (x : Result A Refusal) (r : Result B Refusal) → Agrees steady Same (Err halt) x → After Next x r → Agrees steady Alike (Err halt) r
  stopped_alone (Refused refusal) (Ok a) r agrees after = absurd agrees
  stopped_alone (Refused refusal) (Err e) r agrees after = subst (λ (s : Result B Refusal). Agrees steady Alike (Err (Refused refusal)) s) (sym after) agrees
  stopped_alone ReadFault x r agrees after = agrees
  stopped_alone Memory x r agrees after = tt

  stopped_told : (halt : Halt) → IsToldBy Step (Err halt) → IsToldBy (Step >>= Next) (Err halt)
  stopped_told (Refused refusal) step = (Err refusal, step, refl)
  stopped_told ReadFault step = tt
  stopped_told Memory step = tt

  -- a step that ends early ends those after it
  pub stopped : (halt : Halt) → IsGiven told steady Same Step (Err halt) → IsGiven told steady Alike (Step >>= Next) (Err halt)
  stopped halt given = record {
    told_by = stopped_told halt given.told_by;
    alone = λ t r steps. stopped_alone halt steps.0 r (given.alone t steps.0 steps.1) steps.2;
  }

  continued_told : (a : A) (r : Result B Halt) → Step (Ok a) → IsToldBy (Next a) r → IsToldBy (Step >>= Next) r
  continued_told a (Ok b) step next = (Ok a, step, next)
  continued_told a (Err (Refused refusal)) step next = (Ok a, step, next)
  continued_told a (Err ReadFault) step next = tt
  continued_told a (Err Memory) step next = tt

  continued_alone : (a : A) (r : Result B Halt) (x : Result A Refusal) (s : Result B Refusal)
      → ((b : A) → Same a b → (given : Result B Refusal) → Next b given → Agrees steady Alike r given)
      → Agrees steady Same (Ok a) x → After Next x s → Agrees steady Alike r s
  continued_alone a r (Ok b) s alone agrees after = alone b agrees s after
  continued_alone a r (Err e) s alone agrees after = absurd agrees

  -- what comes after a value, where it comes after each value that is the same
  pub continued : (a : A) (r : Result B Halt) → IsGiven told steady Same Step (Ok a) → IsToldBy (Next a) r
      → (IsTrue told → (b : A) → Same a b → (given : Result B Refusal) → Next b given → Agrees steady Alike r given)
      → IsGiven told steady Alike (Step >>= Next) r
  continued a r given next alone = record {
    told_by = continued_told a r given.told_by next;
    alone = λ t s steps. continued_alone a r steps.0 s (alone t) (given.alone t steps.0 steps.1) steps.2;
  }

-- what comes after a value that nothing else is the same as
pub continued_equal : {A B : Type 0} (told steady : Bool) (Alike : B → B → Type 0) (Step : Result A Refusal → Type 0) (Next : A → Result B Refusal → Type 0) (a : A) (r : Result B Halt)
    → IsGiven told steady Equals Step (Ok a) → IsGiven told steady Alike (Next a) r → IsGiven told steady Alike (Step >>= Next) r
continued_equal {A} {B} told steady Alike Step Next a r given next =
    continued told steady Equals Alike Step Next a r given next.told_by
    (λ t b same s steps. next.alone t s (subst (λ (x : A). Next x s) (sym same) steps))

is_alone : {A : Type 0} (steady : Bool) (a : A) (x : Result A Refusal) → x ≡ Ok a → Agrees steady Equals (Ok a) x
is_alone {A} steady a x is = subst (λ (y : Result A Refusal). Agrees steady Equals (Ok a) y) (sym is) refl

-- one step
module _ {A : Type 0} where
  pub is_refused : (steady : Bool) (Same : A → A → Type 0) (refusal : Refusal) (x : Result A Refusal) → x ≡ Err refusal → Agrees steady Same (Err (Refused refusal)) x
  is_refused steady Same refusal x is = subst (λ (y : Result A Refusal). Agrees steady Same (Err (Refused refusal)) y) (sym is) refl

  -- a value that nothing else is given beside
  pub value_read : (a : A) (Steps : Result A Refusal → Type 0) → Steps (Ok a) → ((x : Result A Refusal) → Steps x → x ≡ Ok a) → IsRead Equals Steps (Ok a)
  value_read a Steps steps alone = record {
    given = record { told_by = steps; alone = λ t x s. is_alone true a x (alone x s) };
    halts = tt;
  }

  -- a refusal that nothing else is given beside
  pub refused_read : (Same : A → A → Type 0) (Steps : Result A Refusal → Type 0) (halt : Halt) (refusal : Refusal) → halt ≡ Refused refusal → is_too_long refusal ≡ false
      → Steps (Err refusal) → ((x : Result A Refusal) → Steps x → x ≡ Err refusal) → IsRead Same Steps (Err halt)
  refused_read Same Steps halt refusal is short steps alone = subst (λ (h : Halt). IsRead Same Steps (Err h)) (sym is) (record {
    given = record { told_by = steps; alone = λ t x s. is_refused true Same refusal x (alone x s) };
    halts = short;
  })

  pub memory_read : (Same : A → A → Type 0) (Steps : Result A Refusal → Type 0) (halt : Halt) → halt ≡ Memory → IsRead Same Steps (Err halt)
  memory_read Same Steps halt is = subst (λ (h : Halt). IsRead Same Steps (Err h)) (sym is) (record { given = no_memory true true Same Steps; halts = tt })

  weaker : (steady : Bool) (Same : A → A → Type 0) (r : Result A Halt) (x : Result A Refusal) → IfErr r HaltsInside → Agrees true Same r x → Agrees steady Same r x
  weaker steady Same (Ok a) (Ok b) halts agrees = agrees
  weaker steady Same (Ok a) (Err e) halts agrees = absurd agrees
  weaker steady Same (Err (Refused refusal)) (Ok b) halts agrees = absurd agrees
  weaker steady Same (Err (Refused refusal)) (Err e) halts agrees = agrees
  weaker steady Same (Err ReadFault) x halts agrees = absurd halts
  weaker steady Same (Err Memory) x halts agrees = tt

  -- a call that opens no file answers as over any files
  pub read_given : (told steady : Bool) (Same : A → A → Type 0) (Steps : Result A Refusal → Type 0) (r : Result A Halt) → IsRead Same Steps r → IsGiven told steady Same Steps r
  read_given told steady Same Steps r read = record {
    told_by = read.given.told_by;
    alone = λ t x steps. weaker steady Same r x read.halts (read.given.alone refl x steps);
  }

  -- the bytes are given, and read
  pub text_given : (told steady : Bool) (Same : A → A → Type 0) (Bytes : Result (List ℕ) Refusal → Type 0) (Reads : List ℕ → Result A Refusal → Type 0) (bytes slice : List ℕ) (r : Result A Halt)
      → IsGiven told steady Equals Bytes (Ok bytes) → slice ≡ bytes → IsRead Same (Reads slice) r → IsGiven told steady Same (Gives Bytes Reads) r
  unfolding Gives
  text_given told steady Same Bytes Reads bytes slice r given same read =
      continued_equal told steady Same Bytes Reads bytes r given
      (read_given told steady Same (Reads bytes) r (subst (λ (b : List ℕ). IsRead Same (Reads b) r) same read))

  -- the file isn't read
  pub text_stopped : (told steady : Bool) (Same : A → A → Type 0) (Bytes : Result (List ℕ) Refusal → Type 0) (Reads : List ℕ → Result A Refusal → Type 0) (halt : Halt)
      → IsGiven told steady Equals Bytes (Err halt) → IsGiven told steady Same (Gives Bytes Reads) (Err halt)
  unfolding Gives
  text_stopped told steady Same Bytes Reads halt given = stopped told steady Equals Same Bytes Reads halt given

  -- ---- how a call ends

  -- a call that opens no file, after one that was given bytes
  pub ends_inside : (old new given : ℕ) (r : Result A Halt) → new ≡ old → given ≤ max_file_bytes → IfErr r HaltsInside → Ends old new given r
  ends_inside old new given (Ok a) same few halts = record { ok_keeps_count = same; ok_given = few; halts = tt }
  ends_inside old new given (Err (Refused refusal)) same few halts =
      let short : nat_lt max_file_bytes given ≡ false = search rules in
      record { ok_keeps_count = tt; ok_given = tt; halts = (same, halts ∙ sym short) }
  ends_inside old new given (Err ReadFault) same few halts = absurd halts
  ends_inside old new given (Err Memory) same few halts = record { ok_keeps_count = tt; ok_given = tt; halts = same }

  -- no fault was counted before
  pub ends_later : (old middle new given : ℕ) (r : Result A Halt) → middle ≡ old → Ends middle new given r → Ends old new given r
  ends_later old middle new given r same ends = subst (λ (n : ℕ). Ends n new given r) same ends

-- a call that opens no file has no fault
pub no_read_fault : {A : Type 0} (r : Result A Halt) → IfErr r HaltsInside → r ≢ Err ReadFault
no_read_fault (Ok a) halts is = absurd (cc)
no_read_fault (Err halt) halts is =
    let same : halt ≡ ReadFault = cc in
    subst HaltsInside same halts

-- a halt ends each of the calls that it ends
pub ends_stopped : {A B : Type 0} (old new given : ℕ) (halt : Halt) → Ends {A = A} old new given (Err halt) → Ends {A = B} old new given (Err halt)
ends_stopped old new given halt ends = record { ok_keeps_count = tt; ok_given = tt; halts = ends.halts }

pub halts_seen : {A B : Type 0} (view : A → B) (r : Result A Halt) → IfErr (seen view r) HaltsInside → IfErr r HaltsInside
halts_seen view (Ok a) halts = tt
halts_seen view (Err halt) halts = halts

-- what holds of a value at each index
pub if_ok_each : {A E I : Type 0} (P : I → A → Type 0) (r : Result A E) → ((i : I) → IfOk r (P i)) → IfOk r (λ a. (i : I) → P i a)
if_ok_each P (Ok a) each = each
if_ok_each P (Err e) each = tt
