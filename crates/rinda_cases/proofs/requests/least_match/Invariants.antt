use Rattle.rinda_cases.proofs.requests.least_match.Given as goal

abbrev pub ghosts-least_once : goal.ghosts-least_once
ghosts-least_once a = record { name = a.blank.name; parts = a.blank.parts }
