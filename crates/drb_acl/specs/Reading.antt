-- What an access list says. docs/ACCESS.md, Files.
use Rattle.std.specs.Prelude.{ℕ, ◌+◌, ◌≡◌, ◌⊎◌, Bool, ◌||◌, ◌==◌, nat_lt, nat_eq, List, [], ◌∷◌, ◌++◌, length, take, drop, slice_index, codes, map, Option, Some, None, Result, Ok, Err, if◌then◌else◌}
use Rattle.std.specs.Cmp.Lexicographic.{pointwise}
use Rattle.drb_acl.specs.declared.rule.Verdict.{Verdict}
use Rattle.drb_acl.specs.declared.rule.Verdict.TheVariants as verdict
use Rattle.drb_acl.specs.declared.rule.Order.TheVariants as order
use Rattle.drb_acl.specs.declared.line.Line.{Line}
use Rattle.drb_acl.specs.declared.line.Line.TheVariants as line
use Rattle.drb_acl.specs.declared.pattern.Pattern.{Pattern}
use Rattle.drb_acl.specs.declared.acl.AclError.{AclError}
use Rattle.drb_acl.specs.declared.acl.AclError.TheVariants as error
use Rattle.drb_acl.specs.Judging.{Access}
use Rattle.drb_acl.specs.Patterns.{is_text, parts, pattern_of}

-- an empty line, and one that begins with `#`, says nothing
abbrev pub is_skipped : List ℕ → Bool
is_skipped text = length text == 0 || slice_index text 0 == 35

abbrev pub begins : List ℕ → List ℕ → Bool
begins front text = pointwise nat_eq (take (length front) text) front

abbrev pub rule_of : Verdict → Option Pattern → Line
rule_of v None = line.NoPattern
rule_of v (Some p) = line.Rule (record { verdict = v; all = p.all; net = p.net; bits = p.bits })

-- `deny` or `allow`, a space and for whom
abbrev pub rule_line : List ℕ → Line
rule_line text =
    if begins (codes "deny ") text then rule_of verdict.Deny (pattern_of (drop 5 text))
    else if begins (codes "allow ") text then rule_of verdict.Allow (pattern_of (drop 6 text))
    else line.NoForm

-- what a line says
abbrev pub line_of : List ℕ → Line
line_of text =
    if is_skipped text then line.Nothing
    else if is_text (codes "order deny,allow") text then line.Order order.DenyAllow
    else if is_text (codes "order allow,deny") text then line.Order order.AllowDeny
    else rule_line text

-- the lines from that number on, of which each is to be skipped or to say a rule; the access list above them is that
abbrev pub rules_from : Access → ℕ → List Line → Result Access AclError
rules_from above n [] = Ok above
rules_from above n (line.Nothing ∷ ls) = rules_from above (n + 1) ls
rules_from above n (line.Order order ∷ ls) = Err (error.Word n)
rules_from above n (line.Rule rule ∷ ls) = if nat_lt (length above.rules) 1024
    then rules_from (record above { rules = above.rules ++ rule ∷ [] }) (n + 1) ls
    else Err (error.TooMany n)
rules_from above n (line.NoForm ∷ ls) = Err (error.Word n)
rules_from above n (line.NoPattern ∷ ls) = Err (error.Address n)

-- nothing was said yet
abbrev pub unsaid : Access
unsaid = record { order = order.DenyAllow; rules = [] }

-- the lines from that number on, above which nothing was said: the first that says something may say the order
abbrev pub lines_from : ℕ → List Line → Result Access AclError
lines_from n [] = Ok unsaid
lines_from n (line.Nothing ∷ ls) = lines_from (n + 1) ls
lines_from n (line.Order order ∷ ls) = rules_from (record { order = order; rules = [] }) (n + 1) ls
lines_from n (line.Rule rule ∷ ls) = rules_from unsaid n (line.Rule rule ∷ ls)
lines_from n (line.NoForm ∷ ls) = Err (error.Word n)
lines_from n (line.NoPattern ∷ ls) = Err (error.Address n)

-- what a file says, whose lines count from 1: an access list, or the first line that is wrong
abbrev pub reading : List ℕ → Result Access AclError
reading text = lines_from 1 (map line_of (parts 10 text))

-- what is said of a file is what is wrong with it, or that there is no memory
abbrev pub IsToldOf : Result Access AclError → AclError → Type 0
IsToldOf read e = (e ≡ error.Memory) ⊎ (read ≡ Err e)
