-- What is found of the rows of a text, and where it breaks, as what an audit answers.
use Rattle.std.proofs.Common.{◌≡◌, ◌∙◌, ℕ, ◌<◌, ◌≤◌, ◌^◌, List, length, inl, inr, refl, sym, ap, subst, arith}
use Rattle.rela_certfile.specs.Breaks.{BreaksAt}
use Rattle.rela_certfile.specs.Layout.{IsLayout, Layout}
use Rattle.rela_certfile.specs.Listed.{AreListed}
use Rattle.rela_certfile.specs.Text.{text_of}
use Rattle.rela_certfile.specs.declared.rows.ListedRow.{ListedRow}
use Rattle.rela_flows.specs.declared.planning.PlannedRow.{PlannedRow}
use Rattle.rela_cert.specs.Audited.{Finds, IsAudited}
use Rattle.rela_cert.specs.Subject.{IsPlan, Subject, layout_of}
use Rattle.rela_cert.specs.declared.answer.Audit.{Audit}
use Rattle.rela_cert.specs.declared.answer.Audit.TheVariants.{Rejected}

module _ (s : Subject) (planned : List PlannedRow) (plan : IsPlan s planned) (l : Layout) (is : l ≡ layout_of s planned) (ok : IsLayout l)
    (limit : ℕ) (text : List ℕ) (short : length text ≤ 33554432) where
  back : (line : ℕ) → BreaksAt (layout_of s planned) text line → BreaksAt l text line
  back line breaks = subst (λ (k : Layout). BreaksAt k text line) (sym is) breaks

  pub found_audited :
      ((k : Layout) (rows : List ListedRow) (line : ℕ) → IsLayout k → AreListed k rows → length (text_of k rows) < 2 ^ 32 → ¬ BreaksAt k (text_of k rows) line)
      → (rows : List ListedRow) → AreListed l rows → text ≡ text_of l rows → (a : Audit) → Finds s planned limit rows a → IsAudited s limit text a
  found_audited unbroken rows listed whole a finds = record {
    planned = planned;
    plan = plan;
    says = inl (
      rows,
      record {
        plan = plan;
        listed = subst (λ (k : Layout). AreListed k rows) is listed;
        whole = whole ∙ ap (λ (k : Layout). text_of k rows) is;
      },
      finds,
    );
    broken = λ line breaks.
        let few = ap length whole in
        absurd (unbroken l rows line ok listed (omega (arith, few)) (subst (λ (t : List ℕ). BreaksAt l t line) whole (back line breaks)));
  }

  pub broken_audited :
      ((k : Layout) (t : List ℕ) (m n : ℕ) → IsLayout k → length t < 2 ^ 32 → BreaksAt k t m → BreaksAt k t n → m ≡ n)
      → (line : ℕ) → BreaksAt l text line → IsAudited s limit text (Rejected line)
  broken_audited once line breaks = record {
    planned = planned;
    plan = plan;
    says = inr (line, subst (λ (k : Layout). BreaksAt k text line) is breaks, refl);
    broken = λ other also. ap Rejected (once l text line other ok (omega arith) breaks (back other also));
  }
