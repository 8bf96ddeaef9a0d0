-- Pairs of states, numbered by where they stand in a list, as the states of what is built of two machines.
use Rattle.std.proofs.Common.{◌≡◌, ◌≢◌, ℕ, ◌+◌, ◌<◌, List, length, map, get_or, sym, ap, ◌∙◌, arith}
use Rattle.std.specs.Prelude.{Some, slice_get, AllPairs, Contains}
use Rattle.std.specs.Option.{option_map}
use Rattle.std.proofs.lemmas.List.{length-map, get_or-map}
use Rattle.std.proofs.lemmas.List.Elements.{All-map, All-weaker}
use Rattle.std.proofs.lemmas.Option.{slice_get-map, slice_get-get_or, slice_get_within, get_or_from_slice_get}
use Rattle.rela_pairs.specs.Reachable.{AreDistinct, MoreThan}
use Rattle.rela_pairs.specs.declared.pair.Pair.{Pair}
use Rattle.rela_rir.specs.Built.{NumberedPairs}
use Rattle.rela_rir.specs.Tables.{ManyStates}
use Rattle.rela_build.specs.Numbered.{AreNumbered, two_of}

abbrev pub pair_of : ℕ × ℕ → Pair
pair_of q = record { left = q.0; right = q.1 }

twos_differ : (zs : List Pair) → AreDistinct zs → AllPairs ◌≢◌ (map two_of zs)
twos_differ zs distinct i j d before within same =
    let in_j : j < length zs = omega (arith, within, length-map zs two_of) in
    let in_i : i < length zs = omega (arith, before, in_j) in
    distinct i j (pair_of d) before in_j
    (ap pair_of (sym (get_or-map two_of zs i (pair_of d) d in_i) ∙ same ∙ get_or-map two_of zs j (pair_of d) d in_j))

listed : (zs : List Pair) (q : ℕ × ℕ) → Contains zs (pair_of q) → Contains (map two_of zs) q
listed zs q (k, below, is) =
    (k, omega (arith, below, length-map zs two_of), get_or-map two_of zs k (pair_of q) q below ∙ ap two_of is)

two_at : (zs : List Pair) (k : ℕ) (z : Pair) → slice_get zs k ≡ Some z → slice_get (map two_of zs) k ≡ Some (two_of z)
two_at zs k z at = slice_get-map two_of zs k ∙ ap (option_map two_of) at

pair_at : (zs : List Pair) (k : ℕ) (q : ℕ × ℕ) → slice_get (map two_of zs) k ≡ Some q → slice_get zs k ≡ Some (pair_of q)
pair_at zs k q at =
    let below : k < length zs = omega (arith, slice_get_within (map two_of zs) k q at, length-map zs two_of) in
    slice_get-get_or zs k (pair_of q) below
    ∙ ap Some (ap pair_of (sym (get_or-map two_of zs k (pair_of q) q below) ∙ get_or_from_slice_get (map two_of zs) k q q at))

-- by their numbers
pub numbered : {I : Type 0} (pairs : List Pair) (reach : ℕ × ℕ → I → Type 0) (r : ℕ → I → Type 0) → AreNumbered pairs reach r → NumberedPairs (map two_of pairs) reach r
numbered pairs reach r are = record {
  different = twos_differ pairs are.distinct;
  all = λ q i has. listed pairs q (are.all (pair_of q) i has);
  numbered = λ k i. (
    λ has.
        let at = slice_get-get_or pairs k (pair_of (0, 0)) (are.below k i has) in
        let z = get_or pairs k (pair_of (0, 0)) in
        (two_of z, two_at pairs k z at, (are.reached k z at i).0 has),
    λ (q, at, has). (are.reached k (pair_of q) (pair_at pairs k q at) i).1 has,
  );
}

-- more pairs than the limit are so many states of both
pub many_states : (limit : ℕ) (P : Pair → Type 0) (Q : ℕ × ℕ → Type 0) → ((z : Pair) → P z → Q (two_of z)) → MoreThan limit P → ManyStates Q (limit + 1)
many_states limit P Q on more = record {
  states = map two_of more.some;
  many = length-map more.some two_of ∙ more.count;
  different = twos_differ more.some more.distinct;
  each = All-map Q two_of more.some (All-weaker P (λ z. Q (two_of z)) on more.some more.each);
}
