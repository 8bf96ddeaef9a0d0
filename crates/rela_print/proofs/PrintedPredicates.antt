-- How predicates are written, form by form.
use Rattle.std.proofs.Common.{◌≡◌, ◌≢◌, ◌∙◌, inl, inr, sym, ap, subst, Bool, true, false, ℕ, List, ◌++◌, map, codes}
use Rattle.std.proofs.lemmas.Bool.{cases_Bool, false≢true}
use Rattle.rela_flows.specs.Notation.{text_of}
use Rattle.rela_flows.specs.declared.prefix.Prefix.{Prefix}
use Rattle.rela_flows.specs.declared.predicate.Predicate.{Predicate}
use Rattle.rela_flows.specs.declared.predicate.Predicate.TheVariants as V
use Rattle.rela_flows.specs.declared.predicate.Predicate.TheOpen as layer
use Rattle.rela_flows.specs.declared.predicate.Predicate.TheViews.{roll-Predicate, out-Predicate, roll-out-Predicate}
use Rattle.rela_flows.specs.declared.predicate.Predicate.TheFolds.{fold-roll-Predicate}
use Rattle.rela_print.specs.Joined.{joined}
use Rattle.rela_print.specs.Names.{name_text}
use Rattle.rela_print.specs.Printed.{Printed, within}
use Rattle.rela_print.specs.PredicateTexts.{test, predicate_layer, printed_predicate, all_layer, is_all}
use Rattle.rela_print.proofs.JoinedTexts.{joined_map}

-- the parts of a chain, each as it stands within one
abbrev pub row : ℕ → List ℕ → List Predicate → List ℕ
row binding between parts = joined between (λ part. within binding (printed_predicate part)) parts

chain_of : (binding : ℕ) (between : List ℕ) (parts : List Predicate) → (let p : Printed = record { binding = binding; text = joined between (within binding) (map printed_predicate parts) } in p) ≡ record { binding = binding; text = row binding between parts }
chain_of binding between parts = ap (λ (t : List ℕ). let p : Printed = record { binding = binding; text = t } in p) (joined_map between (within binding) printed_predicate parts)

pub predicate_all : printed_predicate V.All ≡ test (codes "all")
unfolding printed_predicate
predicate_all = ap printed_predicate (sym V.rolls-All) ∙ fold-roll-Predicate Printed predicate_layer layer.All

pub predicate_dstin : (q : Prefix) → printed_predicate (V.DstIn q) ≡ test (codes "dst in " ++ text_of q)
unfolding printed_predicate
predicate_dstin q = ap printed_predicate (sym (V.rolls-DstIn q)) ∙ fold-roll-Predicate Printed predicate_layer (layer.DstIn q)

pub predicate_dstoverlaps : (q : Prefix) → printed_predicate (V.DstOverlaps q) ≡ test (codes "dst overlaps " ++ text_of q)
unfolding printed_predicate
predicate_dstoverlaps q = ap printed_predicate (sym (V.rolls-DstOverlaps q)) ∙ fold-roll-Predicate Printed predicate_layer (layer.DstOverlaps q)

pub predicate_srcin : (q : Prefix) → printed_predicate (V.SrcIn q) ≡ test (codes "src in " ++ text_of q)
unfolding printed_predicate
predicate_srcin q = ap printed_predicate (sym (V.rolls-SrcIn q)) ∙ fold-roll-Predicate Printed predicate_layer (layer.SrcIn q)

pub predicate_srcoverlaps : (q : Prefix) → printed_predicate (V.SrcOverlaps q) ≡ test (codes "src overlaps " ++ text_of q)
unfolding printed_predicate
predicate_srcoverlaps q = ap printed_predicate (sym (V.rolls-SrcOverlaps q)) ∙ fold-roll-Predicate Printed predicate_layer (layer.SrcOverlaps q)

pub predicate_flow : (name : List ℕ) → printed_predicate (V.Flow name) ≡ test (codes "flow " ++ name_text name)
unfolding printed_predicate
predicate_flow name = ap printed_predicate (sym (V.rolls-Flow name)) ∙ fold-roll-Predicate Printed predicate_layer (layer.Flow name)

pub predicate_class : (name : List ℕ) → printed_predicate (V.Class name) ≡ test (codes "class " ++ name_text name)
unfolding printed_predicate
predicate_class name = ap printed_predicate (sym (V.rolls-Class name)) ∙ fold-roll-Predicate Printed predicate_layer (layer.Class name)

pub predicate_not : (part : Predicate) → printed_predicate (V.Not part) ≡ record { binding = 3; text = codes "not " ++ within 3 (printed_predicate part) }
unfolding printed_predicate
predicate_not part = ap printed_predicate (sym (V.rolls-Not part)) ∙ fold-roll-Predicate Printed predicate_layer (layer.Not part)

pub predicate_and : (parts : List Predicate) → printed_predicate (V.And parts) ≡ record { binding = 2; text = row 2 (codes " and ") parts }
unfolding printed_predicate
predicate_and parts = ap printed_predicate (sym (V.rolls-And parts)) ∙ fold-roll-Predicate Printed predicate_layer (layer.And parts) ∙ chain_of 2 (codes " and ") parts

pub predicate_or : (parts : List Predicate) → printed_predicate (V.Or parts) ≡ record { binding = 1; text = row 1 (codes " or ") parts }
unfolding printed_predicate
predicate_or parts = ap printed_predicate (sym (V.rolls-Or parts)) ∙ fold-roll-Predicate Printed predicate_layer (layer.Or parts) ∙ chain_of 1 (codes " or ") parts

pub ruleset predicate_forms = (predicate_all, predicate_dstin, predicate_dstoverlaps, predicate_srcin, predicate_srcoverlaps, predicate_flow, predicate_class, predicate_not, predicate_and, predicate_or)

pub all_all : is_all V.All ≡ true
unfolding is_all
all_all = ap is_all (sym V.rolls-All) ∙ fold-roll-Predicate Bool all_layer layer.All

only_all : (x : layer.Predicate-F Predicate) → is_all (roll-Predicate x) ≡ true → roll-Predicate x ≡ V.All
unfolding is_all
only_all layer.All e = V.rolls-All
only_all (layer.DstIn q) e = absurd (false≢true (sym (fold-roll-Predicate Bool all_layer (layer.DstIn q)) ∙ e))
only_all (layer.DstOverlaps q) e = absurd (false≢true (sym (fold-roll-Predicate Bool all_layer (layer.DstOverlaps q)) ∙ e))
only_all (layer.SrcIn q) e = absurd (false≢true (sym (fold-roll-Predicate Bool all_layer (layer.SrcIn q)) ∙ e))
only_all (layer.SrcOverlaps q) e = absurd (false≢true (sym (fold-roll-Predicate Bool all_layer (layer.SrcOverlaps q)) ∙ e))
only_all (layer.Flow text) e = absurd (false≢true (sym (fold-roll-Predicate Bool all_layer (layer.Flow text)) ∙ e))
only_all (layer.Class text) e = absurd (false≢true (sym (fold-roll-Predicate Bool all_layer (layer.Class text)) ∙ e))
only_all (layer.Not p) e = absurd (false≢true (sym (fold-roll-Predicate Bool all_layer (layer.Not p)) ∙ e))
only_all (layer.And ps) e = absurd (false≢true (sym (fold-roll-Predicate Bool all_layer (layer.And ps)) ∙ e))
only_all (layer.Or ps) e = absurd (false≢true (sym (fold-roll-Predicate Bool all_layer (layer.Or ps)) ∙ e))

pub is_all_only : (p : Predicate) → is_all p ≡ true → p ≡ V.All
is_all_only p e =
    sym (roll-out-Predicate p) ∙ only_all (out-Predicate p) (subst (λ (x : Predicate). is_all x ≡ true) (sym (roll-out-Predicate p)) e)

pub others_are_not_all : (p : Predicate) → p ≢ V.All → is_all p ≡ false
others_are_not_all p other = elim (cases_Bool (is_all p)) [
  | inl all ↦ absurd (other (is_all_only p all))
  | inr some ↦ some
]
