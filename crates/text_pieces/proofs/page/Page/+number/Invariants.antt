use Rattle.text_pieces.proofs.page.Page.+number.Given as goal

-- The measure is the number: the call is on its tenth part.
abbrev pub decreases-number : goal.decreases-number
decreases-number l = l.n
