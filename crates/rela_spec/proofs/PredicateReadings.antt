-- The readings of predicates, one by one.
use Rattle.std.proofs.Common.{true, false, Result, Ok, Err, [], ◌∷◌}
use Rattle.rela_lex.specs.declared.error.SpecError.{SpecError}
use Rattle.rela_spec.specs.Readings.{next_is, read_all, read_onto}
use Rattle.rela_spec.proofs.Loops.{chain_alone, chain_first_fault, chain_more_fault, chain_joined}
use Rattle.rela_flows.specs.declared.predicate.Predicate.{Predicate}
use Rattle.rela_spec.specs.ReadPredicates.{more_at}
use Rattle.std.proofs.Common.{◌≡◌, ℕ, zero, suc, ◌+◌, refl, sym, ap, ◌∙◌, arith, List}
use Rattle.rela_lex.specs.declared.token.Token.{Token}
use Rattle.rela_spec.specs.Readings.{read_chain}
use Rattle.rela_spec.specs.ReadWords.{is_word_of}
use Rattle.rela_spec.specs.declared.parsing.predicates.Joint.{Joint}
use Rattle.rela_spec.specs.declared.parsing.predicates.Joint.TheVariants as joint
use Rattle.rela_spec.specs.ReadPredicates.{form, between, part_at, next_at, chain_at, read_predicate, predicate_inside, group_at, single_at, denial_at, conjunction_at, disjunction_at}

pub predicate_is : (end room : ℕ) (ts : List Token) → read_predicate end room ts ≡ disjunction_at end room ts
unfolding read_predicate predicate_inside group_at single_at denial_at conjunction_at disjunction_at
predicate_is end zero ts = refl
predicate_is end (suc room) ts = refl

pub inside_is : (end room inner : ℕ) (ts : List Token) → room ≡ inner + 1 → predicate_inside end room ts ≡ read_predicate end inner ts
unfolding predicate_inside
inside_is end room inner ts e = let one : room ≡ suc inner = omega arith in ap (λ (n : ℕ). predicate_inside end n ts) one

pub predicate_is_chain : (end room : ℕ) (ts : List Token) → read_predicate end room ts ≡ chain_at joint.Or end room ts
unfolding chain_at
predicate_is_chain end room ts = predicate_is end room ts

pub chain_is : (j : Joint) (end room : ℕ) (ts : List Token) → chain_at j end room ts ≡ read_chain (form j) (is_word_of (between j)) (next_at j end room) (part_at j end room) ts
unfolding chain_at next_at part_at group_at single_at denial_at conjunction_at disjunction_at
chain_is joint.Or end room ts = refl
chain_is joint.And end room ts = refl

-- what the exits of a chain's reading need
module _ (j : Joint) (end room : ℕ) (tokens : List Token) where
  pub alone_at : (first : Predicate) (rest : List Token) → part_at j end room tokens ≡ Ok (first, rest) → next_is (is_word_of (between j)) rest ≡ false → chain_at j end room tokens ≡ Ok (first, rest)
  alone_at first rest read next = chain_is j end room tokens ∙ chain_alone (is_word_of (between j)) (next_at j end room) (form j) (part_at j end room) tokens first rest read next

  pub first_fault_at : (e : SpecError) → part_at j end room tokens ≡ Err e → chain_at j end room tokens ≡ Err e
  first_fault_at e read = chain_is j end room tokens ∙ chain_first_fault (is_word_of (between j)) (next_at j end room) (form j) (part_at j end room) tokens e read

  more_is : (first : Predicate) (rest : List Token) (now_end : ℕ) (pushed : List Predicate) (found : Result (List Predicate × List Token) SpecError) → now_end ≡ end → pushed ≡ first ∷ [] → more_at j now_end room pushed rest ≡ found
      → read_onto (first ∷ []) (read_all (is_word_of (between j)) (next_at j end room)) rest ≡ found
  unfolding more_at
  more_is first rest now_end pushed found kept items read = ap (λ (n : ℕ). more_at j n room (first ∷ []) rest) (sym kept) ∙ ap (λ (x : List Predicate). more_at j now_end room x rest) (sym items) ∙ read

  pub more_fault_at : (first : Predicate) (rest : List Token) (now_end : ℕ) (pushed : List Predicate) (e : SpecError) → part_at j end room tokens ≡ Ok (first, rest) → now_end ≡ end → pushed ≡ first ∷ []
      → more_at j now_end room pushed rest ≡ Err e → chain_at j end room tokens ≡ Err e
  more_fault_at first rest now_end pushed e read kept items more =
      chain_is j end room tokens ∙ chain_more_fault (is_word_of (between j)) (next_at j end room) (form j) (part_at j end room) tokens first rest e read (more_is first rest now_end pushed (Err e) kept items more)

  pub joined_at : (first : Predicate) (rest : List Token) (now_end : ℕ) (pushed parts : List Predicate) (now : List Token) (whole : Predicate) → part_at j end room tokens ≡ Ok (first, rest) → next_is (is_word_of (between j)) rest ≡ true
      → now_end ≡ end → pushed ≡ first ∷ [] → more_at j now_end room pushed rest ≡ Ok (parts, now) → whole ≡ form j parts → chain_at j end room tokens ≡ Ok (whole, now)
  joined_at first rest now_end pushed parts now whole read next kept items more is =
      chain_is j end room tokens
      ∙ chain_joined (is_word_of (between j)) (next_at j end room) (form j) (part_at j end room) tokens first rest parts now read next (more_is first rest now_end pushed (Ok (parts, now)) kept items more)
      ∙ ap (λ (x : Predicate). Ok (x, now)) (sym is)
