-- The check that has a name, and the texts of its zone.
use Rattle.std.proofs.Common.{◌≡◌, ◌∙◌, ℕ, inl, inr, Bool, true, false, if◌then◌else◌, List, [], ◌∷◌, Option, Some, None, Result, Ok, Err, refl, sym, ap, subst}
use Rattle.std.specs.List.{All}
use Rattle.std.specs.Str.{bytes_eq}
use Rattle.std.proofs.lemmas.List.Elements.{All-head, All-tail}
use Rattle.rela_engine.specs.Zone.{IsZoneText}
use Rattle.rela_snapshot.specs.Steps.{Is}
use Rattle.rela_translate.specs.Checked.{Checked as Check}
use Rattle.rela_inputs.specs.Answer.{Answer}
use Rattle.rela_inputs.specs.Given.{Equals, Agrees, IsGiven, IsRead}
use Rattle.rela_inputs.specs.Halts.{refused}
use Rattle.rela_zone.specs.Zones.{IsZoneAnswer, SameZones, WritesZone, check_named, or_unknown}
use Rattle.rela_inputs.specs.declared.reading.Halt.{Halt}
use Rattle.rela_inputs.specs.declared.refusal.Input.TheVariants.{Words}
use Rattle.rela_inputs.specs.declared.refusal.Reason.TheVariants.{UnknownCheck}
use Rattle.rela_inputs.specs.declared.refusal.Refusal.{Refusal}

some_is : (x y : Check) → ◌≡◌ {A = Option Check} (Some x) (Some y) → x ≡ y
some_is x y e = cc

-- a check that is found is one of the checks
found_or_later : (P : Check → Type 0) (first check : Check) (later : Option Check) (b : Bool) → (if b then Some first else later) ≡ Some check → P first → (later ≡ Some check → P check) → P check
found_or_later P first check later true is one more = subst P (some_is first check is) one
found_or_later P first check later false is one more = more is

found_in : (P : Check → Type 0) (name : List ℕ) (checks : List Check) (check : Check) → check_named name checks ≡ Some check → All P checks → P check
found_in P name [] check is all = absurd (cc)
found_in P name (first ∷ checks) check is all =
    found_or_later P first check (check_named name checks) (bytes_eq name first.name) is (All-head P first checks all)
    (λ later. found_in P name checks check later (All-tail P first checks all))

is_found : (found : Option Check) (check : Check) → Ok check ≡ or_unknown found → found ≡ Some check
is_found (Some other) check is = cc
is_found None check is = absurd (cc)

-- what each of the checks has, the one that is found has
pub of_found : (P : Check → Type 0) (name : List ℕ) (checks : List Check) (check : Check) → Ok check ≡ or_unknown (check_named name checks) → All P checks → P check
of_found P name checks check is all = found_in P name checks check (is_found (check_named name checks) check is) all

-- what is found is given
pub named_read : (found : Option Check) (check : Check) → found ≡ Some check → IsRead Equals (Is (or_unknown found)) (Ok check)
named_read found check is =
    let e = ap or_unknown is in record {
      given = record {
        told_by = sym e;
        alone = λ t x steps. subst (λ (r : Result Check Refusal). Agrees true Equals (Ok check) r) (sym (steps ∙ e)) refl;
      };
      halts = tt;
    }

-- and else the words are refused
pub none_read : (found : Option Check) (halt : Halt) → found ≡ None → halt ≡ refused Words UnknownCheck → IsRead Equals (Is (or_unknown found)) (Err halt)
none_read found halt is halts =
    let e = ap or_unknown is in rw halts (record {
      given = record {
        told_by = sym e;
        alone = λ t x steps. subst (λ (r : Result Check Refusal). Agrees true Equals (Err (refused Words UnknownCheck)) r) (sym (steps ∙ e)) refl;
      };
      halts = refl;
    })

-- the check's zone has one text
abbrev pub HasOneText : List (List ℕ) → Check → Type 0
HasOneText names check = (text other : List ℕ) → IsZoneText check names text → IsZoneText check names other → text ≡ other

abbrev answer_with : List ℕ → ℕ → Answer
answer_with text status = record { text = text; status = status }

module _ (names : List (List ℕ)) (states : ℕ) (check : Check) (one : HasOneText names check) where
  same_zones : (x y : Answer) → IsZoneAnswer names states check x → IsZoneAnswer names states check y → SameZones x y
  same_zones x y (inl (met, is, few)) (inl (other_met, other_is, other_few)) =
      inl (ap (λ (t : List ℕ). answer_with t x.status) (one x.text y.text is other_is) ∙ ap (λ (s : ℕ). answer_with y.text s) (met ∙ sym other_met))
  same_zones x y (inl is) (inr other) = inr (inr other.0)
  same_zones x y (inr is) other = inr (inl is.0)

  pub written : (answer : Answer) → IsZoneAnswer names states check answer → IsGiven true true SameZones (WritesZone names states check) (Ok answer)
  unfolding WritesZone
  written answer is = record {
    told_by = (answer, is, refl);
    alone = λ t x steps.
        subst (λ (r : Result Answer Refusal). Agrees true SameZones (Ok answer) r) (sym steps.2) (same_zones answer steps.0 is steps.1);
  }
