-- What the laws of the crates below say, and that a prefix holds its own address.
use Rattle.std.proofs.Common.{◌≡◌, List, refl}
use Rattle.rela_flows.specs.Address.{Overlap}
use Rattle.rela_flows.specs.Notation.{IsTextOf, text_of}
use Rattle.rela_flows.specs.declared.prefix.Ipv4Prefix.{Ipv4Prefix}
use Rattle.rela_flows.specs.declared.prefix.Prefix.{Prefix}
use Rattle.rela_flows.specs.declared.prefix.Prefix.TheVariants.{V4}
use Rattle.rela_prefixes.specs.Classes.{AreClasses}
use Rattle.rela_prefixes.specs.Holding.{Holds}

pub record AreLaws : Type 0 where
  pub texts : (p : Prefix) → IsTextOf (text_of p) p
  pub apart : (p q : Ipv4Prefix) → p.length ≡ q.length → Overlap (V4 p) (V4 q) → p ≡ q
  pub one_list : (prefixes cs ds : List Ipv4Prefix) → AreClasses prefixes cs → AreClasses prefixes ds → cs ≡ ds

pub holds_own : (p : Ipv4Prefix) → Holds p p.address
holds_own p = record { fits = p.address_fits; first_bits = refl }
