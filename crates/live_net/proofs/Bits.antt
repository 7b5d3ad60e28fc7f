-- The number of an address that was made of a number.
use Rattle.std.proofs.Common.{◌≡◌, ◌∙◌, ℕ, ◌<◌, ◌^◌, ap}
use Rattle.std.proofs.lemmas.Nat.{from_be_bytes-to_be_bytes_4}
use Rattle.std.specs.Int.{w32, from_be_bytes}
use Rattle.std.specs.Net.Addr.{IsIpv4OfBits, ipv4_bits}
use Rattle.std.specs.declared.net.ipv4_addr.Ipv4Addr.{Ipv4Addr}

pub bits_of_bits : (ip : Ipv4Addr) (bits : ℕ) → bits < 2 ^ 32 → IsIpv4OfBits ip bits → ipv4_bits ip ≡ bits
unfolding IsIpv4OfBits ipv4_bits
bits_of_bits ip bits fits made = ap (from_be_bytes w32) made ∙ from_be_bytes-to_be_bytes_4 bits fits
