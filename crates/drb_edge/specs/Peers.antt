-- Who is at an address.
use Rattle.std.specs.Prelude.{◌≡◌, ℕ}
use Rattle.std.specs.Prelude.{None, Some}
use Rattle.std.specs.declared.option.Option.{Option}
use Rattle.std.specs.declared.net.ip_addr.IpAddr.{IpAddr}
use Rattle.std.specs.declared.net.ip_addr.IpAddr.TheVariants.{V4, V6}
use Rattle.std.specs.Net.Addr.{ipv4_bits, IsCanonicalOf}

-- an IPv4 address as a number; no other address has one
abbrev pub number_of : IpAddr → Option ℕ
number_of (V4 address) = Some (ipv4_bits address)
number_of (V6 address) = None

-- an IPv4 address is its own peer; an IPv6 address is who it stands for, where it stands for an IPv4 address
abbrev pub IsPeerOf : IpAddr → Option ℕ → Type 0
IsPeerOf (V4 address) peer = peer ≡ Some (ipv4_bits address)
IsPeerOf (V6 address) peer = (ip : IpAddr) × IsCanonicalOf address ip × (peer ≡ number_of ip)
