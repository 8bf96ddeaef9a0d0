use Rattle.rela_rir.proofs.FixedForms.{as_layer, as_layer_r}
use Rattle.rela_rir.specs.declared.term.PathTerm.TheOpen as F
use Rattle.rela_rir.specs.declared.term.PathTerm.TheVariants as P
use Rattle.rela_rir.specs.declared.term.RelTerm.TheVariants as R
use Rattle.rela_rir.proofs.laws.fixed_terms_by_form.Goals as goal

pub returns : goal.returns
returns c = record {
  none = (as_layer F.None _ P.rolls-None).1 tt;
  empty = (as_layer F.Empty _ P.rolls-Empty).1 tt;
  class = λ k. (as_layer (F.Class k) _ (P.rolls-Class k)).1 tt;
  one = λ s. (as_layer (F.One s) _ (P.rolls-One s)).1 tt;
  union = λ x y. as_layer (F.PathTerm::Union x y) _ (P.rolls-Union x y);
  concat = λ x y. as_layer (F.PathTerm::Concat x y) _ (P.rolls-Concat x y);
  star = λ x. as_layer (F.PathTerm::Star x) _ (P.rolls-Star x);
  meet = λ x y. as_layer (F.Meet x y) _ (P.rolls-Meet x y);
  complement = λ x. as_layer (F.Complement x) _ (P.rolls-Complement x);
  before = (as_layer F.Pre _ P.rolls-Pre).0;
  after = (as_layer F.Post _ P.rolls-Post).0;
  image = λ x r. as_layer (F.Image x r) _ (P.rolls-Image x r);
  identity = λ x. as_layer_r (F.Identity x) _ (R.rolls-Identity x);
  product = λ x y. as_layer_r (F.Product x y) _ (R.rolls-Product x y);
  either = λ r s. as_layer_r (F.RelTerm::Union r s) _ (R.rolls-Union r s);
  joined = λ r s. as_layer_r (F.RelTerm::Concat r s) _ (R.rolls-Concat r s);
  repeated = λ r. as_layer_r (F.RelTerm::Star r) _ (R.rolls-Star r);
  compose = λ r s. as_layer_r (F.Compose r s) _ (R.rolls-Compose r s);
}
