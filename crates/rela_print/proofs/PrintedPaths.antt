-- How path expressions are written, form by form.
use Rattle.std.proofs.Common.{◌≡◌, ◌∙◌, sym, ap, Bool, ℕ, List, ◌++◌, map, codes}
use Rattle.std.specs.Fmt.{decimal}
use Rattle.rela_print.specs.Joined.{joined}
use Rattle.rela_print.specs.Members.{member_text, class_text}
use Rattle.rela_print.specs.Names.{reference_text}
use Rattle.rela_print.specs.Printed.{Printed, within}
use Rattle.rela_print.specs.PathTexts.{atom, postfixed, chain, path_layer, printed_path}
use Rattle.rela_spec.specs.declared.tree.Member.{Member}
use Rattle.rela_spec.specs.declared.tree.PathExpr.{PathExpr}
use Rattle.rela_spec.specs.declared.tree.PathExpr.TheVariants as V
use Rattle.rela_spec.specs.declared.tree.PathExpr.TheOpen as layer
use Rattle.rela_spec.specs.declared.tree.PathExpr.TheFolds.{fold-roll-PathExpr}
use Rattle.rela_print.proofs.JoinedTexts.{joined_map}

-- the parts of a chain, each as it stands within one
abbrev pub row : ℕ → List ℕ → List PathExpr → List ℕ
row binding between parts = joined between (λ part. within binding (printed_path part)) parts

chain_of : (binding : ℕ) (between : List ℕ) (parts : List PathExpr) → chain binding between (map printed_path parts) ≡ record { binding = binding; text = row binding between parts }
chain_of binding between parts = ap (λ (t : List ℕ). let p : Printed = record { binding = binding; text = t } in p) (joined_map between (within binding) printed_path parts)

pub printed_any : printed_path V.Any ≡ atom (codes ".")
unfolding printed_path
printed_any = ap printed_path (sym V.rolls-Any) ∙ fold-roll-PathExpr Printed path_layer layer.Any

pub printed_empty : printed_path V.Empty ≡ atom (codes "()")
unfolding printed_path
printed_empty = ap printed_path (sym V.rolls-Empty) ∙ fold-roll-PathExpr Printed path_layer layer.Empty

pub printed_one : (m : Member) → printed_path (V.One m) ≡ atom (member_text m)
unfolding printed_path
printed_one m = ap printed_path (sym (V.rolls-One m)) ∙ fold-roll-PathExpr Printed path_layer (layer.One m)

pub printed_class : (negated : Bool) (members : List Member) → printed_path (V.Class negated members) ≡ atom (class_text negated members)
unfolding printed_path
printed_class negated members = ap printed_path (sym (V.rolls-Class negated members)) ∙ fold-roll-PathExpr Printed path_layer (layer.Class negated members)

pub printed_reference : (name : List ℕ) (at : ℕ) → printed_path (V.Reference name at) ≡ atom (reference_text name)
unfolding printed_path
printed_reference name at = ap printed_path (sym (V.rolls-Reference name at)) ∙ fold-roll-PathExpr Printed path_layer (layer.Reference name at)

pub printed_seq : (parts : List PathExpr) → printed_path (V.Seq parts) ≡ record { binding = 3; text = row 3 (codes " ") parts }
unfolding printed_path
printed_seq parts = ap printed_path (sym (V.rolls-Seq parts)) ∙ fold-roll-PathExpr Printed path_layer (layer.Seq parts) ∙ chain_of 3 (codes " ") parts

pub printed_alt : (parts : List PathExpr) → printed_path (V.Alt parts) ≡ record { binding = 1; text = row 1 (codes " | ") parts }
unfolding printed_path
printed_alt parts = ap printed_path (sym (V.rolls-Alt parts)) ∙ fold-roll-PathExpr Printed path_layer (layer.Alt parts) ∙ chain_of 1 (codes " | ") parts

pub printed_and : (parts : List PathExpr) → printed_path (V.And parts) ≡ record { binding = 2; text = row 2 (codes " & ") parts }
unfolding printed_path
printed_and parts = ap printed_path (sym (V.rolls-And parts)) ∙ fold-roll-PathExpr Printed path_layer (layer.And parts) ∙ chain_of 2 (codes " & ") parts

pub printed_not : (part : PathExpr) → printed_path (V.Not part) ≡ record { binding = 4; text = codes "!" ++ within 4 (printed_path part) }
unfolding printed_path
printed_not part = ap printed_path (sym (V.rolls-Not part)) ∙ fold-roll-PathExpr Printed path_layer (layer.Not part)

pub printed_star : (part : PathExpr) → printed_path (V.Star part) ≡ postfixed (printed_path part) (codes "*")
unfolding printed_path
printed_star part = ap printed_path (sym (V.rolls-Star part)) ∙ fold-roll-PathExpr Printed path_layer (layer.Star part)

pub printed_plus : (part : PathExpr) → printed_path (V.Plus part) ≡ postfixed (printed_path part) (codes "+")
unfolding printed_path
printed_plus part = ap printed_path (sym (V.rolls-Plus part)) ∙ fold-roll-PathExpr Printed path_layer (layer.Plus part)

pub printed_maybe : (part : PathExpr) → printed_path (V.Maybe part) ≡ postfixed (printed_path part) (codes "?")
unfolding printed_path
printed_maybe part = ap printed_path (sym (V.rolls-Maybe part)) ∙ fold-roll-PathExpr Printed path_layer (layer.Maybe part)

pub printed_times : (part : PathExpr) (n : ℕ) → printed_path (V.Times part n) ≡ postfixed (printed_path part) (codes "{" ++ (decimal n ++ codes "}"))
unfolding printed_path
printed_times part n = ap printed_path (sym (V.rolls-Times part n)) ∙ fold-roll-PathExpr Printed path_layer (layer.Times part n)

pub ruleset printed_forms = (printed_any, printed_empty, printed_one, printed_class, printed_reference, printed_seq, printed_alt, printed_and, printed_not, printed_star, printed_plus, printed_maybe, printed_times)
