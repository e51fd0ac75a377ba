-- What a reader believes of the heads of a stream.
use Rattle.web_frame.proofs.ItemLemmas.{heads_of-step, items_first}

pub ruleset items = (heads_of-step, items_first)
