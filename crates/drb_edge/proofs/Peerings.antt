-- Who is at an address.
use Rattle.std.proofs.Common.{◌≡◌, ◌∙◌, ℕ, ap}
use Rattle.std.specs.declared.option.Option.{Option}
use Rattle.std.specs.declared.net.ip_addr.IpAddr.{IpAddr}
use Rattle.std.specs.declared.net.ip_addr.IpAddr.TheVariants.{V4, V6}
use Rattle.std.specs.Net.Addr.{MatchIp, IsCanonicalOf}
use Rattle.drb_edge.specs.Peers.{IsPeerOf, number_of}

-- the number of the canonical address is the peer
pub peer_is : (ip canonical : IpAddr) (peer : Option ℕ) → MatchIp ip (λ _. canonical ≡ ip) (λ a. IsCanonicalOf a canonical) → peer ≡ number_of canonical → IsPeerOf ip peer
peer_is (V4 address) canonical peer h e = e ∙ ap number_of h
peer_is (V6 address) canonical peer h e = (canonical, h, e)
