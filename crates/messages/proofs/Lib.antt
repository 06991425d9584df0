mod CommentLemmas
