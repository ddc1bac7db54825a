use Rattle.std.proofs.Common.{rules, ◌≡◌, ◌++◌, ℕ, List, true, Some, refl, sym, ◌∙◌, subst}
use Rattle.drb_ref.specs.Uris.{scheme, IsHost, NamesPort, host_of, tail_of}
use Rattle.drb_ref.proofs.Cuts.{parts_are, uri_is, no_host, no_port}
use Rattle.drb_ref.proofs.uris.parse_uri.Goals as goal

pub returns-then-not-is_host-clause-every_uri : goal.returns-then-not-is_host-clause-every_uri
returns-then-not-is_host-clause-every_uri c =
    let text = c.args.text.now in
    let after = c.in-Some.after.now in
    let e : text ≡ scheme ++ after = search rules in
    let none : IsHost (host_of after) → ⊥ = λ h. let t : c.is_host.result ≡ true = c.is_host.ensures.1 (subst IsHost (sym c.cut.ensures.host) h) in cc in
    λ host port u. let p = parts_are text after host port e u in none (subst IsHost (sym p.0) p.1)

pub returns-then-not-is_host-clause-port : goal.returns-then-not-is_host-clause-port
returns-then-not-is_host-clause-port c =
    let text = c.args.text.now in
    let after = c.in-Some.after.now in
    let e : text ≡ scheme ++ after = search rules in
    let none : IsHost (host_of after) → ⊥ = λ h. let t : c.is_host.result ≡ true = c.is_host.ensures.1 (subst IsHost (sym c.cut.ensures.host) h) in cc in
    (λ q. absurd (cc), λ p. absurd (none (no_port text after e p).0))

pub returns-in-Some-port_of-clause-address : goal.returns-in-Some-port_of-clause-address
returns-in-Some-port_of-clause-address c =
    let text = c.args.text.now in
    let after = c.in-Some.after.now in
    let e : text ≡ scheme ++ after = search rules in
    let host : IsHost c.cut.result.0.now = c.is_host.ensures.0 (search rules) in
    uri_is text after c.cut.result.0.now c.cut.result.1.now c.in-Some-port_of.port e c.cut.ensures.host c.cut.ensures.tail host (search rules)

pub returns-in-Some-port_of-clause-every_uri : goal.returns-in-Some-port_of-clause-every_uri
returns-in-Some-port_of-clause-every_uri c =
    let text = c.args.text.now in
    let after = c.in-Some.after.now in
    let e : text ≡ scheme ++ after = search rules in
    λ want port u.
    let p = parts_are text after want port e u in
    let s : c.port_of.result ≡ Some port = c.port_of.ensures.every port (subst (λ (x : List ℕ). NamesPort x port) (sym c.cut.ensures.tail) p.2) in
    (c.cut.ensures.host ∙ p.0, cc)

pub returns-in-Some-port_of-clause-host : goal.returns-in-Some-port_of-clause-host
returns-in-Some-port_of-clause-host c =
    let text = c.args.text.now in
    let after = c.in-Some.after.now in
    let e : text ≡ scheme ++ after = search rules in
    let host : IsHost c.cut.result.0.now = c.is_host.ensures.0 (search rules) in
    (λ q. absurd (cc), λ p. absurd (no_host text after e p (subst IsHost c.cut.ensures.host host)))

pub returns-in-Some-port_of-clause-port : goal.returns-in-Some-port_of-clause-port
returns-in-Some-port_of-clause-port c =
    let text = c.args.text.now in
    let after = c.in-Some.after.now in
    let e : text ≡ scheme ++ after = search rules in
    let named : NamesPort c.cut.result.1.now c.in-Some-port_of.port = search rules in
    (λ q. absurd (cc), λ p. absurd ((no_port text after e p).1 c.in-Some-port_of.port (subst (λ (x : List ℕ). NamesPort x c.in-Some-port_of.port) c.cut.ensures.tail named)))

pub returns-in-None-clause-every_uri : goal.returns-in-None-clause-every_uri
returns-in-None-clause-every_uri c =
    let text = c.args.text.now in
    let after = c.in-Some.after.now in
    let e : text ≡ scheme ++ after = search rules in
    let none : (port : ℕ) → NamesPort (tail_of after) port → ⊥ = λ port p. let s : c.port_of.result ≡ Some port = c.port_of.ensures.every port (subst (λ (x : List ℕ). NamesPort x port) (sym c.cut.ensures.tail) p) in cc in
    λ want port u. none port (parts_are text after want port e u).2

pub returns-in-None-clause-host : goal.returns-in-None-clause-host
returns-in-None-clause-host c =
    let text = c.args.text.now in
    let after = c.in-Some.after.now in
    let e : text ≡ scheme ++ after = search rules in
    let host : IsHost c.cut.result.0.now = c.is_host.ensures.0 (search rules) in
    (λ q. absurd (cc), λ p. absurd (no_host text after e p (subst IsHost c.cut.ensures.host host)))

pub returns-in-None-clause-port : goal.returns-in-None-clause-port
returns-in-None-clause-port c =
    let text = c.args.text.now in
    let after = c.in-Some.after.now in
    let e : text ≡ scheme ++ after = search rules in
    let host : IsHost c.cut.result.0.now = c.is_host.ensures.0 (search rules) in
    let none : (port : ℕ) → NamesPort (tail_of after) port → ⊥ = λ port p. let s : c.port_of.result ≡ Some port = c.port_of.ensures.every port (subst (λ (x : List ℕ). NamesPort x port) (sym c.cut.ensures.tail) p) in cc in
    (λ q. (after, e, subst IsHost c.cut.ensures.host host, none), λ p. refl)
