use Rattle.rinda_tuple.proofs.matching.is_match.Given as goal

abbrev pub ghosts-matches_once : goal.ghosts-matches_once
ghosts-matches_once a = record { name = a.blank.name; parts = a.blank.parts }
