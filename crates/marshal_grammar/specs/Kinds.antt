-- Type bytes: docs/MARSHAL.md, Values.
use Rattle.std.specs.Prelude.{ℕ, Option, Some, None, ◌==◌, if◌then◌else◌}
use Rattle.marshal_grammar.specs.declared.kind.Kind.{Kind}
use Rattle.marshal_grammar.specs.declared.kind.Kind.TheVariants as kind

-- what a value's first byte says; None: it is no type byte
abbrev pub kind_of : ℕ → Option Kind
kind_of b =
    if b == 48 then Some kind.Nil  -- `0`
    else if b == 84 then Some kind.True  -- `T`
    else if b == 70 then Some kind.False  -- `F`
    else if b == 105 then Some kind.Int  -- `i`
    else if b == 108 then Some kind.Big  -- `l`
    else if b == 58 then Some kind.Symbol  -- `:`
    else if b == 59 then Some kind.SymbolLink  -- `;`
    else if b == 73 then Some kind.Marked  -- `I`
    else if b == 34 then Some kind.Text  -- `"`
    else if b == 91 then Some kind.List  -- `[`
    else if b == 123 then Some kind.Hash  -- `{`
    else if b == 125 then Some kind.HashWithDefault  -- `}`
    else if b == 99 then Some kind.Class  -- `c`
    else if b == 109 then Some kind.Module  -- `m`
    else if b == 111 then Some kind.Object  -- `o`
    else if b == 83 then Some kind.Struct  -- `S`
    else if b == 117 then Some kind.Dumped  -- `u`
    else if b == 85 then Some kind.Wrapped  -- `U`
    else if b == 64 then Some kind.Link  -- `@`
    else None
