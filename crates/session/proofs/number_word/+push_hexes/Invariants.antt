use Rattle.session.proofs.number_word.+push_hexes.Given as goal

abbrev pub decreases-push_hexes : goal.decreases-push_hexes
decreases-push_hexes l = l.places
