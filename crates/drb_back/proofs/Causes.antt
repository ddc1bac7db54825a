-- Why a call came to what it came to.
use Rattle.std.proofs.Common.{◌≡◌, ◌↔◌, ℕ, ◌<◌, ◌≤◌, List, [], ◌∷◌, ◌++◌, length, sym, ◌∙◌, ap, subst, inl, inr, arith}
use Rattle.drb_tree.specs.declared.Tree.{Tree}
use Rattle.marshal_grammar.specs.Spelled.{spelled}
use Rattle.marshal_write.specs.Limits.{max_dump}
use Rattle.drb_packet.specs.Texts.{AllShort, SomeLong}
use Rattle.drb_ref.specs.Uris.{IsUri}
use Rattle.drb_back.specs.declared.back.Back.{Back}
use Rattle.drb_back.specs.declared.back.Back.TheVariants as back
use Rattle.drb_back.specs.Outgoing.{NamesNone, Uncalled}

le_not_lt : (m n : ℕ) → m ≤ n → n < m → ⊥
le_not_lt m n a b = omega arith

pub short_not_long : (vs : List Tree) → AllShort vs → SomeLong vs → ⊥
short_not_long [] h k = k
short_not_long (v ∷ vs) h (inl k) = le_not_lt (length (spelled v)) max_dump h.0 k
short_not_long (v ∷ vs) h (inr k) = short_not_long vs h.1 k

-- no address in a text is none in the uri that it is
pub none_in : (uri text : List ℕ) → text ≡ uri → NamesNone text → NamesNone uri
none_in uri text e h = subst (λ (q : List ℕ). NamesNone q) e h

-- an address in a text is one in the uri that it is
pub one_in : (uri text host : List ℕ) (port : ℕ) → text ≡ uri → IsUri text host port → IsUri uri host port
one_in uri text host port e h = subst (λ (q : List ℕ). IsUri q host port) e h

-- where there is an address, the answer is none that says that there is none
pub bad_uri_of : (uri host : List ℕ) (port : ℕ) (b : Back) → IsUri uri host port → (b ≡ back.BadUri → ⊥) → (b ≡ back.BadUri) ↔ NamesNone uri
bad_uri_of uri host port b u h = (λ e. absurd (h e), λ none. absurd (none host port u))

pub called_uri : (b : Back) → (Uncalled b → ⊥) → b ≡ back.BadUri → ⊥
called_uri b h e = h (subst (λ (q : Back). Uncalled q) (sym e) tt)

pub long_uri : ◌≡◌ {A = Back} back.TooLong back.BadUri → ⊥
long_uri e = cc

pub memory_uri : ◌≡◌ {A = Back} back.Memory back.BadUri → ⊥
memory_uri e = cc

-- the text that was written into an empty list
pub text_of : (text out before ask : List ℕ) → text ≡ out → out ≡ before ++ ask → before ≡ [] → text ≡ ask
text_of text out before ask e h k = e ∙ h ∙ ap (λ q. q ++ ask) k
