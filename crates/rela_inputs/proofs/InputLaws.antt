-- What the bytes of an input are, by what reading its file answers.
use Rattle.std.proofs.Common.{◌≡◌, ◌∙◌, ℕ, ◌+◌, ◌<◌, ◌≤◌, Bool, true, false, is_some, IsTrue, List, length, replicate, Option, None, Some, IfSome, Result, Ok, Err, refl, sym, ap, arith}
use Rattle.std.proofs.lemmas.List.{length-replicate}
use Rattle.rela_io.specs.Held.{FilesByName, HoldsName, Lacks}
use Rattle.rela_inputs.specs.Given.{Equals, Agrees, IsGiven}
use Rattle.rela_inputs.specs.Reading.{max_file_bytes}
use Rattle.rela_inputs.specs.Inputs.{IsTold, IsTooLong, HasBytes, BytesOf}
use Rattle.rela_inputs.specs.declared.reading.Halt.TheVariants.{Refused, ReadFault}
use Rattle.rela_inputs.specs.declared.refusal.Input.{Input}
use Rattle.rela_inputs.specs.declared.refusal.Reason.TheVariants.{TooLong}
use Rattle.rela_inputs.specs.declared.refusal.Refusal.{Refusal}

-- a file that is held has its bytes
held_bytes : (files : FilesByName) (name : List ℕ) (found : Option (List ℕ)) → files name ≡ found → ¬ (files name ≡ None)
    → IfSome found (λ bytes. max_file_bytes < length bytes)
    → (bytes : List ℕ) × IsTold (Some files) name bytes × (max_file_bytes < length bytes)
held_bytes files name None is held long = absurd (held is)
held_bytes files name (Some bytes) is held long = (bytes, is, long)

-- some bytes are more than so many
longer : (n : ℕ) → (bytes : List ℕ) × (n < length bytes)
longer n = (replicate (n + 1) 0, omega (arith, length-replicate {A = ℕ} (n + 1) 0))

abbrev too_long : Input → Refusal
too_long input = record { input = input; reason = TooLong }

-- a file that isn't missing, and is long where it is told
is_too_long : (holds : Option FilesByName) (name : List ℕ) (input : Input)
    → ¬ Lacks holds name → IfSome holds (λ held. IfSome (held name) (λ bytes. max_file_bytes < length bytes))
    → IsTooLong holds name input (too_long input)
unfolding IsTooLong
is_too_long None name input held long =
    let bytes = longer max_file_bytes in
    (bytes.0, tt, bytes.1, refl)
is_too_long (Some f) name input held long =
    let found = held_bytes f name (f name) refl held long in
    (found.0, found.1, found.2, refl)

same_bytes : (a b : List ℕ) → ◌≡◌ {A = Option (List ℕ)} (Some a) (Some b) → a ≡ b
same_bytes a b e = cc

module _ (steady : Bool) (name : List ℕ) (input : Input) where
  bytes_alone : (holds : Option FilesByName) (bytes : List ℕ) → HasBytes holds name bytes → IsTrue (is_some holds)
      → (given : Result (List ℕ) Refusal) → BytesOf holds name input given → Agrees steady Equals (Ok bytes) given
  unfolding HasBytes IsTooLong
  bytes_alone None bytes has told given of = absurd (cc)
  bytes_alone (Some f) bytes has told (Ok other) of = same_bytes bytes other (sym has.0 ∙ of.0)
  bytes_alone (Some f) bytes has told (Err refusal) of =
      let same : length bytes ≡ length of.0 = ap length (same_bytes bytes of.0 (sym has.0 ∙ of.1)) in
      absurd (omega (arith, same, has.1, of.2))

  -- the bytes of the file
  pub bytes_given : (holds : Option FilesByName) (bytes : List ℕ) → IfSome holds (λ held. held name ≡ Some bytes) → length bytes ≤ max_file_bytes
      → IsGiven (is_some holds) steady Equals (BytesOf holds name input) (Ok bytes)
  unfolding HasBytes
  bytes_given holds bytes held few = record {
    told_by = (held, few);
    alone = λ told given of. bytes_alone holds bytes (held, few) told given of;
  }

  long_alone : (holds : Option FilesByName) → IsTooLong holds name input (too_long input) → IsTrue (is_some holds)
      → (given : Result (List ℕ) Refusal) → BytesOf holds name input given → Agrees {A = List ℕ} steady Equals (Err (Refused (too_long input))) given
  unfolding HasBytes IsTooLong
  long_alone None long told given of = absurd (cc)
  long_alone (Some f) long told (Ok other) of =
      let same : length other ≡ length long.0 = ap length (same_bytes other long.0 (sym of.0 ∙ long.1)) in
      absurd (omega (arith, same, of.1, long.2))
  long_alone (Some f) long told (Err refusal) of = sym of.3

  -- the refusal of a file that isn't missing, and is long where it is told
  pub too_long_given : (holds : Option FilesByName) → ¬ Lacks holds name → IfSome holds (λ held. IfSome (held name) (λ bytes. max_file_bytes < length bytes))
      → IsGiven {A = List ℕ} (is_some holds) steady Equals (BytesOf holds name input) (Err (Refused (too_long input)))
  too_long_given holds held long = record {
    told_by = is_too_long holds name input held long;
    alone = λ told given of. long_alone holds (is_too_long holds name input held long) told given of;
  }

  there : (holds : Option FilesByName) → IsTrue (is_some holds) → (given : Result (List ℕ) Refusal) → BytesOf holds name input given → HoldsName holds name
  unfolding HasBytes IsTooLong
  there None told given of = absurd (cc)
  there (Some f) told (Ok bytes) of = ap is_some of.0
  there (Some f) told (Err refusal) of = ap is_some of.1

  unsteady : (b : Bool) → (b ≡ true → ⊥) → b ≡ false
  unsteady true absent = absurd (absent refl)
  unsteady false absent = refl

  -- over steady files a fault comes only where nothing is there
  pub fault_given : (holds : Option FilesByName) → (IsTrue steady → HoldsName holds name → ⊥)
      → IsGiven {A = List ℕ} (is_some holds) steady Equals (BytesOf holds name input) (Err ReadFault)
  fault_given holds none = record {
    told_by = tt;
    alone = λ told given of. unsteady steady (λ is. none is (there holds told given of));
  }
