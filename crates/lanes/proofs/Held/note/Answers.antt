use Rattle.lanes.proofs.Laws.{noted_none, noted_full, noted_more, log_is}
use native.Mathlib.Omega.{arith}
use Rattle.lanes.proofs.Held.note.Goals as goal
use Rattle.lanes.proofs.Held.note.Goals.{then-not-news-via-then-not-news, then-not-news-via-else-not-news+then-self}

pub returns-then-not-news-clause-state : goal.returns-then-not-news-clause-state
returns-then-not-news-clause-state c = elim c.then-not-news.branch [
  | then-not-news-via-then-not-news w ↦ log_is _ _ (noted_none _ _ _ _ w.if-not-news.true)
  | then-not-news-via-else-not-news+then-self w ↦ log_is _ _ (noted_full _ _ _ _ w.if-not-news.false w.if-self.true)
]

pub returns-clause-state : goal.returns-clause-state
returns-clause-state c = log_is _ _ (noted_more _ _ _ _ c.if-not-news.false (omega arith) (rw c.from.ensures at c.put_text.ensures))
