-- The readings of path expressions, one by one.
use Rattle.std.proofs.Common.{true, false, Result, Ok, Err, [], ◌∷◌}
use Rattle.rela_lex.specs.declared.error.SpecError.{SpecError}
use Rattle.rela_spec.specs.Readings.{next_is, read_all, read_onto}
use Rattle.rela_spec.proofs.Loops.{chain_alone, chain_first_fault, chain_more_fault, chain_joined}
use Rattle.rela_spec.specs.declared.tree.PathExpr.{PathExpr}
use Rattle.rela_spec.specs.ReadPaths.{more_at}
use Rattle.std.proofs.Common.{◌≡◌, ℕ, zero, suc, ◌+◌, refl, sym, ap, ◌∙◌, arith, List}
use Rattle.rela_lex.specs.declared.token.Token.{Token}
use Rattle.rela_spec.specs.Readings.{read_chain}
use Rattle.rela_spec.specs.declared.parsing.paths.Joint.{Joint}
use Rattle.rela_spec.specs.declared.parsing.paths.Joint.TheVariants as joint
use Rattle.rela_spec.specs.ReadPaths.{form, goes_on, part_at, read_joint, next_at, chain_at, read_path, path_inside, group_at, atom_at, postfixed_at, negation_at, sequence_at, conjunction_at, alternation_at}

pub path_is : (end room : ℕ) (ts : List Token) → read_path end room ts ≡ alternation_at end room ts
unfolding read_path path_inside group_at atom_at postfixed_at negation_at sequence_at conjunction_at alternation_at
path_is end zero ts = refl
path_is end (suc room) ts = refl

pub inside_is : (end room inner : ℕ) (ts : List Token) → room ≡ inner + 1 → path_inside end room ts ≡ read_path end inner ts
unfolding path_inside
inside_is end room inner ts e = let one : room ≡ suc inner = omega arith in ap (λ (n : ℕ). path_inside end n ts) one

pub path_is_chain : (end room : ℕ) (ts : List Token) → read_path end room ts ≡ chain_at joint.Alt end room ts
unfolding chain_at
path_is_chain end room ts = path_is end room ts

pub chain_is : (j : Joint) (end room : ℕ) (ts : List Token) → chain_at j end room ts ≡ read_chain (form j) (goes_on j) (next_at j end room) (part_at j end room) ts
unfolding chain_at next_at read_joint part_at sequence_at conjunction_at alternation_at
chain_is joint.Alt end room ts = refl
chain_is joint.And end room ts = refl
chain_is joint.Seq end room ts = refl

-- what the exits of a chain's reading need
module _ (j : Joint) (end room : ℕ) (tokens : List Token) where
  pub alone_at : (first : PathExpr) (rest : List Token) → part_at j end room tokens ≡ Ok (first, rest) → next_is (goes_on j) rest ≡ false → chain_at j end room tokens ≡ Ok (first, rest)
  alone_at first rest read next = chain_is j end room tokens ∙ chain_alone (goes_on j) (next_at j end room) (form j) (part_at j end room) tokens first rest read next

  pub first_fault_at : (e : SpecError) → part_at j end room tokens ≡ Err e → chain_at j end room tokens ≡ Err e
  first_fault_at e read = chain_is j end room tokens ∙ chain_first_fault (goes_on j) (next_at j end room) (form j) (part_at j end room) tokens e read

  more_is : (first : PathExpr) (rest : List Token) (now_end : ℕ) (pushed : List PathExpr) (found : Result (List PathExpr × List Token) SpecError) → now_end ≡ end → pushed ≡ first ∷ [] → more_at j now_end room pushed rest ≡ found
      → read_onto (first ∷ []) (read_all (goes_on j) (next_at j end room)) rest ≡ found
  unfolding more_at
  more_is first rest now_end pushed found kept items read = ap (λ (n : ℕ). more_at j n room (first ∷ []) rest) (sym kept) ∙ ap (λ (x : List PathExpr). more_at j now_end room x rest) (sym items) ∙ read

  pub more_fault_at : (first : PathExpr) (rest : List Token) (now_end : ℕ) (pushed : List PathExpr) (e : SpecError) → part_at j end room tokens ≡ Ok (first, rest) → now_end ≡ end → pushed ≡ first ∷ []
      → more_at j now_end room pushed rest ≡ Err e → chain_at j end room tokens ≡ Err e
  more_fault_at first rest now_end pushed e read kept items more =
      chain_is j end room tokens ∙ chain_more_fault (goes_on j) (next_at j end room) (form j) (part_at j end room) tokens first rest e read (more_is first rest now_end pushed (Err e) kept items more)

  pub joined_at : (first : PathExpr) (rest : List Token) (now_end : ℕ) (pushed parts : List PathExpr) (now : List Token) (whole : PathExpr) → part_at j end room tokens ≡ Ok (first, rest) → next_is (goes_on j) rest ≡ true
      → now_end ≡ end → pushed ≡ first ∷ [] → more_at j now_end room pushed rest ≡ Ok (parts, now) → whole ≡ form j parts → chain_at j end room tokens ≡ Ok (whole, now)
  joined_at first rest now_end pushed parts now whole read next kept items more is =
      chain_is j end room tokens
      ∙ chain_joined (goes_on j) (next_at j end room) (form j) (part_at j end room) tokens first rest parts now read next (more_is first rest now_end pushed (Ok (parts, now)) kept items more)
      ∙ ap (λ (x : PathExpr). Ok (x, now)) (sym is)
