-- What is read in brackets is read behind them with one less to open.
use Rattle.std.proofs.Common.{◌≡◌, ℕ, suc, ◌+◌, List, ap, arith}
use Rattle.rela_lex.specs.declared.token.Token.{Token}
use Rattle.rela_rirfile.specs.ReadTrees.{set_inside, rel_inside, tree_inside, read_set, read_rel, read_tree, read_one_set, read_two_sets, read_set_and_rel, read_one_rel, read_two_rels, read_one_tree, read_two_trees}

pub inside_set : (end room inner : ℕ) (ts : List Token) → room ≡ inner + 1 → set_inside end room ts ≡ read_set end inner ts
unfolding set_inside read_set read_one_set read_two_sets read_set_and_rel
inside_set end room inner ts e = let one : room ≡ suc inner = omega arith in ap (λ (n : ℕ). set_inside end n ts) one

pub inside_rel : (end room inner : ℕ) (ts : List Token) → room ≡ inner + 1 → rel_inside end room ts ≡ read_rel end inner ts
unfolding rel_inside read_rel read_one_set read_two_sets read_one_rel read_two_rels
inside_rel end room inner ts e = let one : room ≡ suc inner = omega arith in ap (λ (n : ℕ). rel_inside end n ts) one

pub inside_tree : (end room inner : ℕ) (ts : List Token) → room ≡ inner + 1 → tree_inside end room ts ≡ read_tree end inner ts
unfolding tree_inside read_tree read_two_sets read_one_tree read_two_trees
inside_tree end room inner ts e = let one : room ≡ suc inner = omega arith in ap (λ (n : ℕ). tree_inside end n ts) one

pub ruleset inside_forms = (inside_set, inside_rel, inside_tree)
