-- The names of an input: `a` or `b` with three digits.
use Rattle.std.specs.Prelude.{ℕ, ◌+◌, ◌/◌, ◌%◌, List, [], ◌∷◌, ◌++◌, codes}
use Rattle.std.specs.List.{flat_map, range_with_len}

-- the last three decimal digits of a number
abbrev pub three_digits : ℕ → List ℕ
three_digits i = (48 + i / 100 % 10) ∷ (48 + i / 10 % 10) ∷ (48 + i % 10) ∷ []

-- a device, by the byte of its letter and its number
abbrev pub Label : Type 0
Label = ℕ × ℕ

-- the device a of a number, and the device b
abbrev pub label_a : ℕ → Label
label_a i = (97, i)

abbrev pub label_b : ℕ → Label
label_b i = (98, i)

abbrev pub device_name : Label → List ℕ
device_name label = label.0 ∷ three_digits label.1

-- the one interface of a device
abbrev pub interface_name : Label → List ℕ
interface_name label = device_name label ++ codes ":0"

abbrev pub both : ℕ → List Label
both i = label_a i ∷ label_b i ∷ []

-- a and b of each of so many numbers from the first on
abbrev pub labels_from : ℕ → ℕ → List Label
labels_from first count = flat_map both (range_with_len first count)
