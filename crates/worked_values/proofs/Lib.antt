mod Life
