-- The symbols that a name picks: they rise, and are path symbols.
use Rattle.std.proofs.Common.{◌≡◌, ℕ, ◌+◌, ◌<◌, List, length, get_or, arith}
use Rattle.std.specs.List.{All, range_with_len}
use Rattle.std.specs.List.Sorted.{IsStrictlyIncreasing}
use Rattle.std.proofs.lemmas.List.Elements.{All-filter}
use Rattle.std.proofs.lemmas.List.FromFn.{get_or-range_with_len, length-range_with_len}
use Rattle.std.proofs.lemmas.List.Kept.{IsStrictlyIncreasing-filter}
use Rattle.rela_locations.specs.Names.{has_name}
use Rattle.rela_locations.specs.Network.{Network, alphabet_of, members_of, names_at, name_of, within}
use Rattle.rela_locations.specs.declared.members.By.{By}
use Rattle.rela_names.specs.Alphabet.{path_symbols}
use Rattle.rela_names.specs.declared.level.Level.{Level}

range_rises : (n : ℕ) → IsStrictlyIncreasing (range_with_len 0 n)
range_rises n k inside =
    let in_range : k + 1 < n = rw length-range_with_len at inside in
    let here : get_or (range_with_len 0 n) k 0 ≡ 0 + k = get_or-range_with_len 0 n k 0 (omega arith) in
    let next : get_or (range_with_len 0 n) (k + 1) 0 ≡ 0 + (k + 1) = get_or-range_with_len 0 n (k + 1) 0 in_range in
    rw (here, next) (omega arith)

range_is_below : (n : ℕ) → All (λ s. s < n + 2) (range_with_len 0 n)
range_is_below n k d inside =
    let in_range : k < n = rw length-range_with_len at inside in
    rw (get_or-range_with_len 0 n k d in_range) (omega arith)

module _ (at : Level) (by : By) (name : List ℕ) (network : Network) where
  pub members_rise : IsStrictlyIncreasing (members_of at by name network)
  members_rise =
      IsStrictlyIncreasing-filter (λ symbol. has_name (names_at at (within by name network)) (name_of at network symbol)) (range_with_len 0 (length (alphabet_of at network)))
      (range_rises (length (alphabet_of at network)))

  pub members_are_below : All (λ s. s < path_symbols (alphabet_of at network)) (members_of at by name network)
  members_are_below =
      All-filter (λ symbol. has_name (names_at at (within by name network)) (name_of at network symbol)) (λ s. s < path_symbols (alphabet_of at network))
      (range_with_len 0 (length (alphabet_of at network))) (range_is_below (length (alphabet_of at network)))
