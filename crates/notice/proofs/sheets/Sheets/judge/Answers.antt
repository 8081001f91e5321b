-- `judge` meets its contract, by the verdicts that were found. Assumes nothing.
use Rattle.sheet.proofs.Laid.{judged_accepted, judged_refusal}
use Rattle.notice.proofs.sheets.Sheets.judge.Goals as goal

pub returns-then-olds-ne0 : goal.returns-then-olds-ne0
returns-then-olds-ne0 c = judged_refusal _ _ c.judge_parts-olds.ensures c.if-olds-ne0.true

pub returns-then-news-ne0 : goal.returns-then-news-ne0
returns-then-news-ne0 c = (
  judged_accepted _ _ c.judge_parts-olds.ensures c.if-olds-ne0.false,
  judged_refusal _ _ c.judge_parts-news.ensures c.if-news-ne0.true,
)

pub invariant_of-result : goal.invariant_of-result
invariant_of-result c = record {
  old_accepted = judged_accepted _ _ c.judge_parts-olds.ensures c.if-olds-ne0.false;
  new_accepted = judged_accepted _ _ c.judge_parts-news.ensures c.if-news-ne0.false;
  olds_laid = c.judge_parts-olds.ensures;
  news_laid = c.judge_parts-news.ensures;
}
